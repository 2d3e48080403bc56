use Rattle.std.proofs.Common.{arith, ◌≡◌, ℕ, ◌≤◌, ◌*◌, ◌^◌, ap}
use Rattle.std.specs.Str.Parse.{digits_value_after}
use Rattle.decimal_quote.proofs.Digits.{value_after-ge}
use Rattle.decimal_quote.proofs.Ends.{too_great, reaches, grows, some_is}
use Rattle.decimal_quote.proofs.shares.amount_before.Goals as goal

pub returns-in_default : goal.returns-in_default
returns-in_default c =
    let front : ℕ = digits_value_after 10 0 c.args.front.now in
    too_great _ _ (omega (arith, reaches c.args.end front c.in_default.ensures, value_after-ge front c.args.more.now, grows (digits_value_after 10 front c.args.more.now) c.args.zeros))

pub returns-in_default-digits_below : goal.returns-in_default-digits_below
returns-in_default-digits_below c =
    let front : ℕ = digits_value_after 10 0 c.args.front.now in
    let same = some_is c.args.end front c.in-Some.amount c.in-Some.ensures in
    too_great _ _ (omega (arith, reaches c.args.end (digits_value_after 10 c.in-Some.amount c.args.more.now) c.in_default-digits_below.ensures, ap (λ (n : ℕ). digits_value_after 10 n c.args.more.now) same, grows (digits_value_after 10 front c.args.more.now) c.args.zeros))
