use Rattle.std.proofs.Common.{arith, ap, sym, ◌∙◌}
use lib.Count.{count_trailing_zeros}
use Rattle.std.proofs.lemmas.List.Sums.{prefix_len-le-length}
use Rattle.std.specs.List.{prefix_len}
use Rattle.std.specs.Char.{is_ascii_digit}
use Rattle.decimal_quote.proofs.Lanes.{all_digits, first_other}
use Rattle.decimal_quote.proofs.numbers.digits_at_front.Goals as goal

pub returns-then-others-ne0-clause-digits : goal.returns-then-others-ne0-clause-digits
returns-then-others-ne0-clause-digits c =
    let mask = c.non_digits-others.ensures in
    let run = first_other c.args.text.now c.vectors.at (omega arith) (omega (arith, mask)) ∙ ap (count_trailing_zeros 64) (sym mask) in
    omega (arith, run, c.vectors.invariant.0)

pub returns-then-others-ne0-clause-within : goal.returns-then-others-ne0-clause-within
returns-then-others-ne0-clause-within c =
    omega (arith, returns-then-others-ne0-clause-digits c, prefix_len-le-length is_ascii_digit c.args.text.now)

pub vectors-preserved : goal.vectors-preserved
vectors-preserved c =
    let run = all_digits c.args.text.now c.vectors.at (omega arith) (omega (arith, c.non_digits-others.ensures)) in
    (omega (arith, run, c.vectors.invariant.0), omega arith)

pub returns-clause-digits : goal.returns-clause-digits
returns-clause-digits c =
    let rest = ap (prefix_len is_ascii_digit) c.split_at.ensures.back in
    omega (arith, c.vectors.invariant.0, c.digits_one_by_one.ensures.digits, rest)
