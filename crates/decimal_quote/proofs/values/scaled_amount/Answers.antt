use Rattle.std.proofs.Common.{◌≡◌, ℕ, ◌∙◌, ◌*◌, ◌^◌, ◌/◌, ap, sym, Bool}
use Rattle.decimal_quote.specs.Values.{at_most_18_digits, is_negative, numerator, denominator, units, rounded}
use Rattle.decimal_quote.proofs.Ends.{some_is}
use Rattle.decimal_quote.proofs.values.scaled_amount.Goals as goal

pub returns : goal.returns
returns c =
    let n : ℕ = numerator c.args.text.now * units c.args.milli in
    let d : ℕ = denominator c.args.text.now in
    c.short_number.ensures
    ∙ ap (at_most_18_digits (is_negative c.args.text.now)) (
    c.amount_rounded.ensures n d (some_is (10 ^ 18) (n / d) c.in-Some.amount (sym c.in-Some.is ∙ c.share_of-share.ensures.amount)) c.share_of-share.ensures.rest
    ∙ ap (λ (away : Bool). rounded away n d) c.is_rounded_away-is_away.ensures)
