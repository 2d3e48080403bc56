-- Where the point of a decimal moves to, and what stands before it.
use Rattle.std.proofs.Common.{◌≡◌, ℕ, zero, suc, List, [], ◌∷◌, ◌++◌, length, Bool, true, false, not, cond, take, drop, refl, ap, arith, ◌<◌, ◌≤◌, ◌+◌, ◌*◌, ◌/◌, ◌%◌, ◌^◌, ◌-◌, ◌==◌, ◌&&◌, ◌⊎◌, inl, inr, ⊎_elim, subst, sym, ◌∙◌, min, append-nil, append_assoc, length-append, length-take, length-drop}
use Rattle.std.proofs.lemmas.Bool.{cases_lt}
use Rattle.std.proofs.lemmas.Bool.Decides.{nat_tests}
use Rattle.std.proofs.lemmas.List.{take-append-drop, take_all}
use Rattle.std.proofs.lemmas.List.Folds.{list_all-append}
use Rattle.std.proofs.lemmas.Int.Digits.{digits_value-lt}
use Rattle.std.proofs.lemmas.Nat.{pow-add, div-mul-add, mod-mul-add}
use Rattle.std.proofs.Math.ListN.{drop_of_length-le}
use Rattle.std.proofs.Math.Nat.{pow-suc, pow-le-pow_right, add-mul, mul_assoc, mul_comm, mul-lt-mul_of_pos_right}
use Rattle.std.specs.Str.Parse.{AllDigits, digits_value, digits_value_after}
use Rattle.std.specs.List.{list_all}
use Rattle.decimal_quote.specs.Values.{is_zero, raised, whole_digits, fraction_digits, is_divided, exponent_amount, numerator, denominator}
use Rattle.decimal_quote.proofs.Digits.{value_append, value_after, no_value, all_digits_take, all_digits_drop, all_digits_append}

pub pow_some : (k : ℕ) → 0 < 10 ^ k
pow_some k = let le = pow-le-pow_right {n = 10} (omega arith) {i = 0} {j = k} (omega arith) in omega arith

-- how a point between x and r, behind which r has y digits, moves by `up` to the right and then by q to the left
data Moves (x y up q z : ℕ) : Type 0 where
  within : y + up ≡ q → z ≡ 0 → Moves x y up q z
  behind : y ≡ 0 → up ≡ z + q → Moves x y up q z
  before : x ≡ 0 → y + up ≤ q → z ≡ 0 → Moves x y up q z

raise : (n x r y up : ℕ) → n ≡ x * 10 ^ y + r → n * 10 ^ up ≡ x * 10 ^ (y + up) + r * 10 ^ up
raise n x r y up e =
    ap (λ (m : ℕ). m * 10 ^ up) e
    ∙ add-mul (x * 10 ^ y) r (10 ^ up)
    ∙ ap (λ (m : ℕ). m + r * 10 ^ up) (mul_assoc x (10 ^ y) (10 ^ up) ∙ ap (λ (m : ℕ). x * m) (sym (pow-add 10 y up)))

rest_fits : (r y up : ℕ) → r < 10 ^ y → r * 10 ^ up < 10 ^ (y + up)
rest_fits r y up h =
    let less : r * 10 ^ up < 10 ^ y * 10 ^ up = mul-lt-mul_of_pos_right {m = r} {n = 10 ^ y} {k = 10 ^ up} h (pow_some up) in
    omega (arith, less, pow-add 10 y up)

moved : (n x r y up q z : ℕ) → n ≡ x * 10 ^ y + r → r < 10 ^ y → Moves x y up q z → (n * 10 ^ up ≡ x * 10 ^ z * 10 ^ q + r * 10 ^ up) × (r * 10 ^ up < 10 ^ q)
moved n x r y up q z e small (within at none) =
    let whole : x * 10 ^ (y + up) ≡ x * 10 ^ z * 10 ^ q = ap (λ (m : ℕ). x * 10 ^ m) at ∙ ap (λ (m : ℕ). m * 10 ^ q) (sym (ap (λ (m : ℕ). x * 10 ^ m) none ∙ omega arith)) in
    (raise n x r y up e ∙ ap (λ (m : ℕ). m + r * 10 ^ up) whole, subst (λ (m : ℕ). r * 10 ^ up < 10 ^ m) at (rest_fits r y up small))
moved n x r y up q z e small (behind none up_is) =
    let r_is : r ≡ 0 = let one : 10 ^ y ≡ 1 = ap (λ (m : ℕ). 10 ^ m) none in omega arith in
    let rest : r * 10 ^ up ≡ 0 = ap (λ (m : ℕ). m * 10 ^ up) r_is ∙ omega arith in
    let place : y + up ≡ z + q = omega arith in
    let whole : x * 10 ^ (y + up) ≡ x * 10 ^ z * 10 ^ q = ap (λ (m : ℕ). x * 10 ^ m) place ∙ ap (λ (m : ℕ). x * m) (pow-add 10 z q) ∙ sym (mul_assoc x (10 ^ z) (10 ^ q)) in
    (raise n x r y up e ∙ ap (λ (m : ℕ). m + r * 10 ^ up) whole, omega (arith, rest, pow_some q))
moved n x r y up q z e small (before none low z_is) =
    let first : x * 10 ^ (y + up) ≡ 0 = ap (λ (m : ℕ). m * 10 ^ (y + up)) none ∙ omega arith in
    let other : x * 10 ^ z * 10 ^ q ≡ 0 = ap (λ (m : ℕ). m * 10 ^ z * 10 ^ q) none ∙ omega arith in
    let le : 10 ^ (y + up) ≤ 10 ^ q = pow-le-pow_right {n = 10} (omega arith) low in
    (raise n x r y up e ∙ ap (λ (m : ℕ). m + r * 10 ^ up) (first ∙ sym other), omega (arith, rest_fits r y up small, le))

cut_in_two : (ws fs : List ℕ) (a b : ℕ) → (length ws ≤ a) ⊎ (b ≡ 0) → ws ++ fs ≡ (take a ws ++ take b fs) ++ (drop a ws ++ drop b fs)
cut_in_two ws fs a b (inl all) =
    let front : take a ws ≡ ws = take_all a ws all in
    let rest : drop a ws ≡ [] = drop_of_length-le ws all in
    rw (front, rest) (ap (λ (xs : List ℕ). ws ++ xs) (sym (take-append-drop b fs)) ∙ sym (append_assoc ws (take b fs) (drop b fs)))
cut_in_two ws fs a b (inr none) =
    rw none (
    ap (λ (xs : List ℕ). xs ++ fs) (sym (take-append-drop a ws))
    ∙ append_assoc (take a ws) (drop a ws) fs
    ∙ ap (λ (xs : List ℕ). xs ++ (drop a ws ++ fs)) (sym (append-nil (take a ws))))

two_values : (ds xs ys : List ℕ) → ds ≡ xs ++ ys → digits_value 10 ds ≡ digits_value 10 xs * 10 ^ length ys + digits_value 10 ys
two_values ds xs ys e = ap (digits_value 10) e ∙ value_append 0 xs ys ∙ value_after (digits_value 10 xs) ys

-- which of the three a move is, where w digits stand before the point and f behind it
moves : (x w f up down a b z y : ℕ) → (a ≡ 0 → b ≡ 0 → x ≡ 0) → a ≡ min (w + up - down) w → b ≡ min (w + up - down - a) f → z ≡ w + up - down - a - b → y + a + b ≡ w + f → Moves x y up (f + down) z
moves x w f up down a b z y none a_is b_is z_is y_is = ⊎_elim
    (λ low. before (none (omega arith) (omega arith)) (omega arith) (omega arith))
    (λ high. ⊎_elim
    (λ inner. within (omega arith) (omega arith))
    (λ outer. behind (omega arith) (omega arith))
    (cases_lt (w + up - down) (w + f)))
    (cases_lt (w + up) down)

-- the two parts of the digits, and the move of their point
record IsMoved (ws fs : List ℕ) (a b up q z : ℕ) : Type 0 where
  whole : raised ws fs up ≡ digits_value_after 10 (digits_value_after 10 0 (take a ws)) (take b fs) * 10 ^ z * 10 ^ q + digits_value 10 (drop a ws ++ drop b fs) * 10 ^ up
  small : digits_value 10 (drop a ws ++ drop b fs) * 10 ^ up < 10 ^ q

is_moved : (ws fs : List ℕ) (up down a b z : ℕ) → AllDigits 10 ws → AllDigits 10 fs → a ≡ min (length ws + up - down) (length ws) → b ≡ min (length ws + up - down - a) (length fs) → z ≡ length ws + up - down - a - b → IsMoved ws fs a b up (length fs + down) z
is_moved ws fs up down a b z dw df a_is b_is z_is =
    let xs : List ℕ = take a ws ++ take b fs in
    let ys : List ℕ = drop a ws ++ drop b fs in
    let cut : ws ++ fs ≡ xs ++ ys = cut_in_two ws fs a b (⊎_elim (λ less. inr (omega arith)) (λ all. inl (omega arith)) (cases_lt (length ws + up - down) (length ws))) in
    let small : digits_value 10 ys < 10 ^ length ys = digits_value-lt 10 ys (all_digits_append (drop a ws) (drop b fs) (all_digits_drop a ws dw) (all_digits_drop b fs df)) in
    let long : length ys ≡ (length ws - a) + (length fs - b) = length-append (drop a ws) (drop b fs) ∙ omega (arith, length-drop a ws, length-drop b fs) in
    let none : a ≡ 0 → b ≡ 0 → digits_value 10 xs ≡ 0 = λ h k. ap (λ (n : ℕ). digits_value 10 (take n ws ++ take b fs)) h ∙ ap (λ (n : ℕ). digits_value 10 (take n fs)) k in
    let all = moved (digits_value 10 (ws ++ fs)) (digits_value 10 xs) (digits_value 10 ys) (length ys) up (length fs + down) z (two_values (ws ++ fs) xs ys cut) small (moves (digits_value 10 xs) (length ws) (length fs) up down a b z (length ys) none a_is b_is z_is (omega arith)) in
    record { whole = all.0 ∙ ap (λ (n : ℕ). n * 10 ^ z * 10 ^ (length fs + down) + digits_value 10 ys * 10 ^ up) (value_append 0 (take a ws) (take b fs)); small = all.1 }

pub quotient_is : (ws fs : List ℕ) (up down a b z : ℕ) → AllDigits 10 ws → AllDigits 10 fs → a ≡ min (length ws + up - down) (length ws) → b ≡ min (length ws + up - down - a) (length fs) → z ≡ length ws + up - down - a - b → raised ws fs up / 10 ^ (length fs + down) ≡ digits_value_after 10 (digits_value_after 10 0 (take a ws)) (take b fs) * 10 ^ z
quotient_is ws fs up down a b z dw df a_is b_is z_is =
    let m = is_moved ws fs up down a b z dw df a_is b_is z_is in
    ap (λ (n : ℕ). n / 10 ^ (length fs + down)) m.whole ∙ div-mul-add (digits_value_after 10 (digits_value_after 10 0 (take a ws)) (take b fs) * 10 ^ z) (10 ^ (length fs + down)) (digits_value 10 (drop a ws ++ drop b fs) * 10 ^ up) m.small

no_product : (r p : ℕ) → 0 < p → (r * p == 0) ≡ (r == 0)
no_product zero p h = ap (λ (n : ℕ). n == 0) {x = zero * p} {y = 0} (omega arith)
no_product (suc r) p h =
    let some : 0 < suc r * p = omega (arith, add-mul r 1 p) in
    grind (arith, nat_tests)

pub rest_is : (ws fs : List ℕ) (up down a b z : ℕ) → AllDigits 10 ws → AllDigits 10 fs → a ≡ min (length ws + up - down) (length ws) → b ≡ min (length ws + up - down - a) (length fs) → z ≡ length ws + up - down - a - b → (list_all is_zero (drop a ws) && list_all is_zero (drop b fs)) ≡ (raised ws fs up % 10 ^ (length fs + down) == 0)
rest_is ws fs up down a b z dw df a_is b_is z_is =
    let m = is_moved ws fs up down a b z dw df a_is b_is z_is in
    let ys : List ℕ = drop a ws ++ drop b fs in
    let left : raised ws fs up % 10 ^ (length fs + down) ≡ digits_value 10 ys * 10 ^ up = ap (λ (n : ℕ). n % 10 ^ (length fs + down)) m.whole ∙ mod-mul-add (digits_value_after 10 (digits_value_after 10 0 (take a ws)) (take b fs) * 10 ^ z) (10 ^ (length fs + down)) (digits_value 10 ys * 10 ^ up) m.small in
    let zeros : (digits_value 10 ys == 0) ≡ list_all is_zero ys = no_value 0 ys (all_digits_append (drop a ws) (drop b fs) (all_digits_drop a ws dw) (all_digits_drop b fs df)) in
    sym (ap (λ (n : ℕ). n == 0) left ∙ no_product (digits_value 10 ys) (10 ^ up) (pow_some up) ∙ zeros ∙ list_all-append is_zero (drop a ws) (drop b fs))

-- the numbers that a text's value is made of, by its parts
pub multiplied : (t ws fs : List ℕ) (e p u : ℕ) → ws ≡ whole_digits t → fs ≡ fraction_digits t → is_divided t ≡ false → e ≡ exponent_amount t → 10 ^ p ≡ u → raised ws fs (e + p) ≡ numerator t * u
unfolding numerator
multiplied t ws fs e p u ws_is fs_is not_divided e_is u_is =
    let power : 10 ^ (e + p) ≡ 10 ^ (cond (is_divided t) 0 (exponent_amount t)) * u = pow-add 10 e p ∙ ap (λ (n : ℕ). 10 ^ e * n) u_is ∙ ap (λ (n : ℕ). 10 ^ n * u) (e_is ∙ ap (λ (b : Bool). cond b 0 (exponent_amount t)) (sym not_divided)) in
    ap (λ (xs : List ℕ). raised xs fs (e + p)) ws_is
    ∙ ap (λ (xs : List ℕ). raised (whole_digits t) xs (e + p)) fs_is
    ∙ ap (λ (n : ℕ). digits_value 10 (whole_digits t ++ fraction_digits t) * n) power
    ∙ sym (mul_assoc (digits_value 10 (whole_digits t ++ fraction_digits t)) (10 ^ (cond (is_divided t) 0 (exponent_amount t))) u)

pub multiplied_alone : (t ws fs : List ℕ) (p u : ℕ) → ws ≡ whole_digits t → fs ≡ fraction_digits t → is_divided t ≡ true → 10 ^ p ≡ u → raised ws fs p ≡ numerator t * u
unfolding numerator
multiplied_alone t ws fs p u ws_is fs_is divided u_is =
    let one : 10 ^ (cond (is_divided t) 0 (exponent_amount t)) ≡ 1 = ap (λ (b : Bool). 10 ^ (cond b 0 (exponent_amount t))) divided in
    let v : ℕ = digits_value 10 (whole_digits t ++ fraction_digits t) in
    let plain : numerator t ≡ v = ap (λ (n : ℕ). v * n) one ∙ omega arith in
    ap (λ (xs : List ℕ). raised xs fs p) ws_is
    ∙ ap (λ (xs : List ℕ). raised (whole_digits t) xs p) fs_is
    ∙ ap (λ (n : ℕ). v * n) u_is
    ∙ ap (λ (n : ℕ). n * u) (sym plain)

pub divided_by : (t fs : List ℕ) (b : Bool) (e : ℕ) → fs ≡ fraction_digits t → is_divided t ≡ b → e ≡ exponent_amount t → 10 ^ (length fs + (cond b e 0)) ≡ denominator t
unfolding denominator
divided_by t fs b e fs_is b_is e_is =
    ap (λ (xs : List ℕ). 10 ^ (length xs + cond b e 0)) fs_is
    ∙ ap (λ (c : Bool). 10 ^ (length (fraction_digits t) + cond c e 0)) (sym b_is)
    ∙ ap (λ (n : ℕ). 10 ^ (length (fraction_digits t) + cond (is_divided t) n 0)) e_is
