use Rattle.std.proofs.Common.{◌≡◌, ℕ, ◌∙◌, ap, Bool, not, sym, subst, ◌&&◌, List, length, min, take, drop, ◌-◌, ◌*◌, ◌^◌}
use Rattle.std.specs.Str.Parse.{AllDigits, digits_value_after}
use Rattle.std.specs.List.{list_all}
use Rattle.decimal_quote.specs.Values.{below, is_zero}
use Rattle.decimal_quote.proofs.Digits.{all_digits_take}
use Rattle.decimal_quote.proofs.Points.{quotient_is, rest_is}
use Rattle.decimal_quote.proofs.shares.divide.Goals as goal

pub amount_before-requires-clause-digits : goal.amount_before-requires-clause-digits
amount_before-requires-clause-digits c =
    subst (AllDigits 10) (sym c.split_at.ensures.front) (all_digits_take c.min-of_whole.result c.args.whole.now c.requires.digits_before)

pub amount_before-requires-clause-more_digits : goal.amount_before-requires-clause-more_digits
amount_before-requires-clause-more_digits c =
    subst (AllDigits 10) (sym c.split_at-2.ensures.front) (all_digits_take c.min-of_fraction.result c.args.fraction.now c.requires.digits_behind)

pub returns-clause-amount : goal.returns-clause-amount
returns-clause-amount c =
    let ws : List ℕ = c.args.whole.now in
    let fs : List ℕ = c.args.fraction.now in
    let p : ℕ = c.saturating_sub-point.result in
    let a : ℕ = c.min-of_whole.result in
    let b : ℕ = c.min-of_fraction.result in
    let at = c.saturating_sub-point.ensures in
    let quotient = quotient_is ws fs c.args.up c.args.down a b (p - a - b) c.requires.digits_before c.requires.digits_behind (c.min-of_whole.ensures ∙ ap (λ (n : ℕ). min n (length ws)) at) (c.min-of_fraction.ensures ∙ ap (λ (n : ℕ). min (n - a) (length fs)) at) (ap (λ (n : ℕ). n - a - b) at) in
    c.amount_before.ensures
    ∙ ap (λ (xs : List ℕ). below c.args.end (digits_value_after 10 (digits_value_after 10 0 xs) c.split_at-2.result.0.now * 10 ^ (p - a - b))) c.split_at.ensures.front
    ∙ ap (λ (xs : List ℕ). below c.args.end (digits_value_after 10 (digits_value_after 10 0 (take a ws)) xs * 10 ^ (p - a - b))) c.split_at-2.ensures.front
    ∙ ap (below c.args.end) (sym quotient)

pub returns-clause-rest : goal.returns-clause-rest
returns-clause-rest c =
    let ws : List ℕ = c.args.whole.now in
    let fs : List ℕ = c.args.fraction.now in
    let p : ℕ = c.saturating_sub-point.result in
    let a : ℕ = c.min-of_whole.result in
    let b : ℕ = c.min-of_fraction.result in
    let at = c.saturating_sub-point.ensures in
    let rest = rest_is ws fs c.args.up c.args.down a b (p - a - b) c.requires.digits_before c.requires.digits_behind (c.min-of_whole.ensures ∙ ap (λ (n : ℕ). min n (length ws)) at) (c.min-of_fraction.ensures ∙ ap (λ (n : ℕ). min (n - a) (length fs)) at) (ap (λ (n : ℕ). n - a - b) at) in
    ap not (
    c.are_zeros_alone.ensures
    ∙ ap (λ (xs : List ℕ). list_all is_zero xs && list_all is_zero c.split_at-2.result.1.now) c.split_at.ensures.back
    ∙ ap (λ (xs : List ℕ). list_all is_zero (drop a ws) && list_all is_zero xs) c.split_at-2.ensures.back
    ∙ rest)
