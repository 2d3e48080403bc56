use Rattle.std.proofs.Common.{◌≡◌, ◌<◌, ◌^◌, true, false, arith, rules}
use Rattle.std.proofs.lemmas.Fmt.{parse-decimal}
use Rattle.command_line.proofs.numbers.read_number.Goals.{else-number-most-via-then-number-most+else-is_text_of, else-number-most-via-else-number-most}
use Rattle.command_line.proofs.numbers.read_number.Goals as goal

-- a decimal text is parsed
pub returns-in_default-clause-none : goal.returns-in_default-clause-none
returns-in_default-clause-none c number within text =
    let most : c.args.most < 2 ^ 64 = c.ranges.most.fits in
    let small : number < 2 ^ 64 = omega (arith, most, within) in
    let parsed = parse-decimal 64 number c.args.text.now c.parse.result small small text c.parse.ensures.value.0 in
    cc

pub returns-else-number-most-clause-none : goal.returns-else-number-most-clause-none
returns-else-number-most-clause-none c number within text =
    let most : c.args.most < 2 ^ 64 = c.ranges.most.fits in
    let small : number < 2 ^ 64 = omega (arith, most, within) in
    let parsed = parse-decimal 64 number c.args.text.now c.parse.result small small text c.parse.ensures.value.0 in
    let same : c.in-Ok.number ≡ number = cc in
    elim c.else-number-most.branch [
      | else-number-most-via-then-number-most+else-is_text_of w ↦
          let told : w.is_text_of.result ≡ true = w.is_text_of.ensures.1 (rw same text) in
          let missed : w.is_text_of.result ≡ false = search rules in
          cc
      | else-number-most-via-else-number-most w ↦ search (rules, same)
    ]
