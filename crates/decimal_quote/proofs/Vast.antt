-- Exponents that no text makes up for by its digits.
use Rattle.std.proofs.Common.{◌≡◌, ℕ, zero, suc, ℤ, pos, Bool, true, false, cond, ◌+◌, ◌*◌, ◌/◌, ◌%◌, ◌^◌, ◌-◌, ◌==◌, ◌&&◌, ◌<◌, ◌≤◌, ◌⊎◌, inl, inr, List, [], ◌++◌, length, take, drop, min, refl, ap, sym, subst, ◌∙◌, arith, length-append, length-take, length-drop}
use Rattle.std.specs.Prelude.{neg_ℤ}
use Rattle.std.proofs.lemmas.Bool.Decides.{nat_tests}
use Rattle.std.proofs.lemmas.Int.Digits.{digits_value-lt}
use Rattle.std.proofs.lemmas.Nat.{pow-add, div-mul-add, le-div}
use Rattle.std.proofs.Math.Nat.{pow-le-pow_right, add-mul, mul_assoc}
use Rattle.std.specs.List.{prefix_len}
use Rattle.std.specs.Char.{is_ascii_digit}
use Rattle.std.specs.Str.Parse.{AllDigits, digits_value}
use Rattle.decimal_quote.specs.Numbers.{begins, after_minus, is_number}
use Rattle.decimal_quote.specs.Values.{front_digits, behind_digits, whole_digits, behind_whole, fraction_digits, is_divided, is_negative, exponent_amount, numerator, denominator, signed, fits_64_bits, count_by, count_told}
use Rattle.decimal_quote.proofs.Digits.{front_digits_are, all_digits_append}
use Rattle.decimal_quote.proofs.Points.{pow_some}

cond_same : {A : Type 0} (b : Bool) (x : A) → cond b x x ≡ x
cond_same true x = refl
cond_same false x = refl

cond_false : (b c : Bool) (x y : ℤ) → c ≡ false → y ≡ cond (b && c) x y
cond_false true true x y e = absurd (let h = e in cc)
cond_false true false x y e = refl
cond_false false c x y e = refl

zero_signed : (negative : Bool) → signed negative 0 ≡ pos 0
zero_signed true = refl
zero_signed false = refl

too_far : (negative : Bool) (q : ℕ) → 2 ^ 64 ≤ q → fits_64_bits negative q ≡ false
too_far true q h = grind (arith, nat_tests)
too_far false q h = grind (arith, nat_tests)

counts_nothing : (negative : Bool) (n d : ℕ) → (n / d ≡ 0) ⊎ (2 ^ 64 ≤ n / d) → pos 0 ≡ count_by negative n d
counts_nothing negative n d (inl none) =
    sym (ap (λ (q : ℕ). cond (n % d == 0 && fits_64_bits negative q) (signed negative q) (pos 0)) none
    ∙ ap (λ (z : ℤ). cond (n % d == 0 && fits_64_bits negative 0) z (pos 0)) (zero_signed negative)
    ∙ cond_same (n % d == 0 && fits_64_bits negative 0) (pos 0))
counts_nothing negative n d (inr far) = cond_false (n % d == 0) (fits_64_bits negative (n / d)) (signed negative (n / d)) (pos 0) (too_far negative (n / d) far)

after_minus_le : (t : List ℕ) → length (after_minus t) ≤ length t
after_minus_le t = by (begins 45 t)
  where
    by : (b : Bool) → length (cond b (drop 1 t) t) ≤ length t
    by true = omega (arith, length-drop 1 t)
    by false = omega arith

whole_le : (t : List ℕ) → length (whole_digits t) ≤ length t
whole_le t = omega (arith, after_minus_le t, length-take (prefix_len is_ascii_digit (after_minus t)) (after_minus t))

fraction_le : (t : List ℕ) → length (fraction_digits t) ≤ length t
fraction_le t = omega (arith, after_minus_le t, length-drop (prefix_len is_ascii_digit (after_minus t)) (after_minus t), by (begins 46 (behind_whole t)) (behind_whole t))
  where
    by : (b : Bool) (r : List ℕ) → length (cond b (front_digits (drop 1 r)) []) ≤ length r
    by true r = omega (arith, length-take (prefix_len is_ascii_digit (drop 1 r)) (drop 1 r), length-drop 1 r)
    by false r = omega arith

fraction_digits_are : (t : List ℕ) → AllDigits 10 (fraction_digits t)
fraction_digits_are t = by (begins 46 (behind_whole t))
  where
    by : (b : Bool) → AllDigits 10 (cond b (front_digits (drop 1 (behind_whole t))) [])
    by true = front_digits_are (drop 1 (behind_whole t))
    by false = tt

all_digits : List ℕ → ℕ
all_digits t = digits_value 10 (whole_digits t ++ fraction_digits t)

worth_less : (t : List ℕ) → all_digits t < 10 ^ (length (whole_digits t) + length (fraction_digits t))
unfolding all_digits
worth_less t =
    let less = digits_value-lt 10 (whole_digits t ++ fraction_digits t) (all_digits_append (whole_digits t) (fraction_digits t) (front_digits_are (after_minus t)) (fraction_digits_are t)) in
    subst (λ (k : ℕ). digits_value 10 (whole_digits t ++ fraction_digits t) < 10 ^ k) (length-append (whole_digits t) (fraction_digits t)) less

small_quotient : (n d : ℕ) → n < d → n / d ≡ 0
small_quotient n d h = ap (λ (m : ℕ). m / d) {x = n} {y = 0 * d + n} (omega arith) ∙ div-mul-add 0 d n h

far_quotient : (v e f : ℕ) → f + 20 ≤ e → (v * 10 ^ e / 10 ^ (f + 0) ≡ 0) ⊎ (2 ^ 64 ≤ v * 10 ^ e / 10 ^ (f + 0))
far_quotient zero e f h = inl (ap (λ (n : ℕ). n / 10 ^ (f + 0)) {x = zero * 10 ^ e} {y = 0} (omega arith) ∙ small_quotient 0 (10 ^ (f + 0)) (pow_some (f + 0)))
far_quotient (suc v) e f h =
    let more : 10 ^ (f + 20) ≤ 10 ^ e = pow-le-pow_right {n = 10} (omega arith) h in
    let cut : 10 ^ (20 + (f + 0)) ≡ 10 ^ 20 * 10 ^ (f + 0) = pow-add 10 20 (f + 0) in
    let same : 10 ^ (20 + (f + 0)) ≡ 10 ^ (f + 20) = ap (λ (k : ℕ). 10 ^ k) (omega arith) in
    let times : suc v * 10 ^ e ≡ v * 10 ^ e + 10 ^ e = ap (λ (k : ℕ). k * 10 ^ e) {x = suc v} {y = v + 1} (omega arith) ∙ add-mul v 1 (10 ^ e) ∙ omega arith in
    let big : 10 ^ 20 ≤ suc v * 10 ^ e / 10 ^ (f + 0) = le-div (10 ^ 20) (suc v * 10 ^ e) (10 ^ (f + 0)) (pow_some (f + 0)) (omega (arith, more, cut, same, times)) in
    inr (omega (arith, big))

quotient_by : (v w f e s : ℕ) (divided : Bool) → v < 10 ^ (w + f) → w ≤ s → f ≤ s → s + 20 ≤ e → (v * 10 ^ (cond divided 0 e) / 10 ^ (f + cond divided e 0) ≡ 0) ⊎ (2 ^ 64 ≤ v * 10 ^ (cond divided 0 e) / 10 ^ (f + cond divided e 0))
quotient_by v w f e s true small wide long far =
    let le : 10 ^ (w + f) ≤ 10 ^ (f + e) = pow-le-pow_right {n = 10} (omega arith) (omega arith) in
    inl (ap (λ (n : ℕ). n / 10 ^ (f + e)) {x = v * 1} {y = v} (omega arith) ∙ small_quotient v (10 ^ (f + e)) (omega arith))
quotient_by v w f e s false small wide long far = far_quotient v e f (omega arith)

vast_quotient : (t : List ℕ) → length t + 20 ≤ exponent_amount t → (numerator t / denominator t ≡ 0) ⊎ (2 ^ 64 ≤ numerator t / denominator t)
unfolding all_digits numerator denominator
vast_quotient t h = quotient_by (all_digits t) (length (whole_digits t)) (length (fraction_digits t)) (exponent_amount t) (length t) (is_divided t) (worth_less t) (whole_le t) (fraction_le t) h

number_or_not : (b : Bool) (z : ℤ) → pos 0 ≡ z → pos 0 ≡ cond b z (pos 0)
number_or_not true z e = e
number_or_not false z e = refl

pub vast : (t : List ℕ) → length t + 20 ≤ exponent_amount t → pos 0 ≡ count_told t
vast t h = number_or_not (is_number t) _ (counts_nothing (is_negative t) (numerator t) (denominator t) (vast_quotient t h))
