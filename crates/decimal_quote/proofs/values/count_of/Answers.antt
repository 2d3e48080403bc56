use Rattle.std.proofs.Common.{◌≡◌, ℕ, ◌+◌, ◌≤◌, ◌∙◌, ap, arith, length, subst}
use Rattle.std.specs.Str.Parse.{digits_value}
use Rattle.decimal_quote.specs.Values.{exponent_amount}
use Rattle.decimal_quote.proofs.Ends.{reaches}
use Rattle.decimal_quote.proofs.Vast.{vast}
use Rattle.decimal_quote.proofs.values.count_of.Goals as goal

pub returns-in_default : goal.returns-in_default
returns-in_default c =
    vast c.args.text.now (subst (λ (n : ℕ). length c.args.text.now + 20 ≤ n) (ap (digits_value 10) c.spelling_of.ensures.exponent) (reaches (length c.args.text.now + 20) (digits_value 10 c.spelling_of.result.exponent.now) c.in_default.ensures))
