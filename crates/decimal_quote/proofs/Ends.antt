-- Numbers that do not reach an end.
use Rattle.std.proofs.Common.{◌≡◌, ℕ, zero, suc, List, [], ◌∷◌, length, Bool, true, false, cond, drop, refl, ap, arith, ◌<◌, ◌≤◌, ◌+◌, ◌*◌, ◌^◌, ◌-◌, subst, sym, ◌∙◌, Option, Some, None, get_or, drop-cons}
use Rattle.std.proofs.lemmas.Bool.Decides.{nat_tests}
use Rattle.std.proofs.lemmas.Str.{digit_value_digit}
use Rattle.std.proofs.lemmas.Str.Parse.{digit_from_value}
use Rattle.std.proofs.Math.Nat.{pow-suc, mul_assoc, add-mul}
use Rattle.std.specs.Prelude.{nat_lt}
use Rattle.std.specs.Char.{digit_value}
use Rattle.std.specs.Str.Parse.{AllDigits, digits_value_after}
use Rattle.decimal_quote.specs.Values.{below}
use Rattle.decimal_quote.proofs.Digits.{value_after-ge}
use Rattle.decimal_quote.proofs.Points.{pow_some}

by_test : (b : Bool) (n : ℕ) → (b ≡ true → ⊥) → ◌≡◌ {A = Option ℕ} None (cond b (Some n) None)
by_test true n h = absurd (h refl)
by_test false n h = refl

pub too_great : (end n : ℕ) → end ≤ n → ◌≡◌ {A = Option ℕ} None (below end n)
too_great end n h = by_test (nat_lt n end) n (λ e. grind (arith, nat_tests))

small_by : (b : Bool) (n : ℕ) → b ≡ true → ◌≡◌ {A = Option ℕ} (Some n) (cond b (Some n) None)
small_by true n h = refl
small_by false n h = absurd (let e = sym h in cc)

pub is_below : (end n : ℕ) → n < end → ◌≡◌ {A = Option ℕ} (Some n) (below end n)
is_below end n h = small_by (nat_lt n end) n (grind (arith, nat_tests))

none_by : (b : Bool) (n : ℕ) → ◌≡◌ {A = Option ℕ} None (cond b (Some n) None) → b ≡ true → ⊥
none_by true n e h = cc
none_by false n e h = cc

pub reaches : (end n : ℕ) → ◌≡◌ {A = Option ℕ} None (below end n) → end ≤ n
reaches end n e = let no = none_by (nat_lt n end) n e in grind (arith, nat_tests)

pub digits_reach : (end total i amount d : ℕ) (ds : List ℕ) → i < length ds → digits_value_after 10 total (drop i ds) ≡ digits_value_after 10 amount ds → AllDigits 10 (drop i ds) → d ≡ get_or ds i 0 - 48 → end ≤ total * 10 + d → end ≤ digits_value_after 10 amount ds
digits_reach end total i amount d ds within value digits d_is far =
    let first : drop i ds ≡ get_or ds i 0 ∷ drop (suc i) ds = drop-cons ds i 0 within in
    let one : AllDigits 10 (get_or ds i 0 ∷ drop (suc i) ds) = subst (AllDigits 10) first digits in
    let worth = digit_value_digit (get_or ds i 0) (digit_from_value (get_or ds i 0) one.0) in
    let more = value_after-ge (total * 10 + digit_value (get_or ds i 0)) (drop (suc i) ds) in
    let same : digits_value_after 10 (total * 10 + digit_value (get_or ds i 0)) (drop (suc i) ds) ≡ digits_value_after 10 amount ds = ap (digits_value_after 10 total) (sym first) ∙ value in
    omega (arith, worth, more, same)

pub one_zero_less : (total left : ℕ) → 0 < left → total * 10 * 10 ^ (left - 1) ≡ total * 10 ^ left
one_zero_less total zero h = absurd (omega arith)
one_zero_less total (suc left) h =
    mul_assoc total 10 (10 ^ (suc left - 1))
    ∙ ap (λ (n : ℕ). total * n) (ap (λ (n : ℕ). 10 * 10 ^ n) {x = suc left - 1} {y = left} (omega arith) ∙ omega (arith, pow-suc 10 left))

pub grows : (n k : ℕ) → n ≤ n * 10 ^ k
grows zero k = omega arith
grows (suc n) k =
    let some = pow_some k in
    let more = grows n k in
    omega (arith, some, more, add-mul n 1 (10 ^ k))

some_by : (b : Bool) (n m : ℕ) → ◌≡◌ {A = Option ℕ} (Some m) (cond b (Some n) None) → m ≡ n
some_by true n m e = cc
some_by false n m e = absurd (let h = e in cc)

pub some_is : (end n m : ℕ) → ◌≡◌ {A = Option ℕ} (Some m) (below end n) → m ≡ n
some_is end n m e = some_by (nat_lt n end) n m e
