-- Digits, what they are worth, and those at the front of a text.
use Rattle.std.proofs.Common.{◌≡◌, ℕ, zero, suc, List, [], ◌∷◌, ◌++◌, length, Bool, true, false, cond, take, drop, refl, ap, arith, ◌<◌, ◌≤◌, ◌+◌, ◌*◌, ◌^◌, ◌-◌, ◌==◌, ◌&&◌, subst, sym, ◌∙◌, Option, Some, None, min, max}
use Rattle.std.proofs.lemmas.Bool.Decides.{nat_tests}
use Rattle.std.proofs.lemmas.Str.{digit_value_digit}
use Rattle.std.proofs.lemmas.Str.Parse.{digit_from_value}
use Rattle.std.proofs.Math.Nat.{pow-suc, add-mul, mul_assoc}
use Rattle.std.specs.Str.Parse.{AllDigits, digits_value, digits_value_after}
use Rattle.std.specs.List.{prefix_len, list_all}
use Rattle.std.specs.Char.{is_ascii_digit, digit_value}
use Rattle.decimal_quote.specs.Values.{front_digits, below, is_zero}

digit_is : (b : ℕ) → is_ascii_digit b ≡ true → digit_value b < 10
digit_is b h = grind (arith, nat_tests)

all_one_more : (b : ℕ) (t : List ℕ) (n : ℕ) (d : Bool) → (d ≡ true → digit_value b < 10) → AllDigits 10 (take n t) → AllDigits 10 (take (cond d (1 + n) 0) (b ∷ t))
all_one_more b t n true h rest = subst (λ (k : ℕ). AllDigits 10 (take k (b ∷ t))) {x = suc n} (omega arith) (h refl, rest)
all_one_more b t n false h rest = tt

pub front_digits_are : (t : List ℕ) → AllDigits 10 (front_digits t)
front_digits_are [] = tt
front_digits_are (b ∷ t) =
    all_one_more b t (prefix_len is_ascii_digit t) (is_ascii_digit b) (digit_is b) (front_digits_are t)

pub all_digits_take : (n : ℕ) (ds : List ℕ) → AllDigits 10 ds → AllDigits 10 (take n ds)
all_digits_take zero ds h = tt
all_digits_take (suc n) [] h = tt
all_digits_take (suc n) (d ∷ ds) h = (h.0, all_digits_take n ds h.1)

pub all_digits_drop : (n : ℕ) (ds : List ℕ) → AllDigits 10 ds → AllDigits 10 (drop n ds)
all_digits_drop zero ds h = h
all_digits_drop (suc n) [] h = tt
all_digits_drop (suc n) (d ∷ ds) h = all_digits_drop n ds h.1

pub all_digits_append : (ds es : List ℕ) → AllDigits 10 ds → AllDigits 10 es → AllDigits 10 (ds ++ es)
all_digits_append [] es h k = k
all_digits_append (d ∷ ds) es h k = (h.0, all_digits_append ds es h.1 k)

pub value_append : (n : ℕ) (ds es : List ℕ) → digits_value_after 10 n (ds ++ es) ≡ digits_value_after 10 (digits_value_after 10 n ds) es
value_append n [] es = refl
value_append n (d ∷ ds) es = value_append (n * 10 + digit_value d) ds es

pub value_after-ge : (n : ℕ) (ds : List ℕ) → n ≤ digits_value_after 10 n ds
value_after-ge n [] = omega arith
value_after-ge n (d ∷ ds) = let more = value_after-ge (n * 10 + digit_value d) ds in omega arith

after_step : (n v x y p : ℕ) → y ≡ x * 10 → (n * 10 + v) * x + p ≡ n * y + ((0 * 10 + v) * x + p)
after_step n v x y p e =
    let front : (n * 10 + v) * x ≡ n * 10 * x + v * x = add-mul (n * 10) v x in
    let none : (0 * 10 + v) * x ≡ v * x = ap (λ (m : ℕ). m * x) (omega arith) in
    let turned : n * 10 * x ≡ n * y = mul_assoc n 10 x ∙ ap (λ (m : ℕ). n * m) (omega (arith, e)) in
    omega (arith, front, none, turned)

-- digits behind an amount
pub value_after : (n : ℕ) (ds : List ℕ) → digits_value_after 10 n ds ≡ n * 10 ^ length ds + digits_value 10 ds
value_after n [] = omega arith
value_after n (d ∷ ds) =
    value_after (n * 10 + digit_value d) ds
    ∙ after_step n (digit_value d) (10 ^ length ds) (10 ^ suc (length ds)) (digits_value 10 ds) (pow-suc 10 (length ds))
    ∙ ap (λ (m : ℕ). n * 10 ^ suc (length ds) + m) (sym (value_after (0 * 10 + digit_value d) ds))

is_zero_digit : (d : ℕ) → digit_value d < 10 → (digit_value d == 0) ≡ is_zero d
is_zero_digit d h = let is = digit_value_digit d (digit_from_value d h) in same_tests (digit_value d) 0 d 48 (λ e. omega arith) (λ e. omega arith)
  where
    same_tests : (a b c d : ℕ) → (a ≡ b → c ≡ d) → (c ≡ d → a ≡ b) → (a == b) ≡ (c == d)
    same_tests a b c d f g = grind (arith, nat_tests)

none_of_sum : (n v : ℕ) → (n * 10 + v == 0) ≡ (n == 0 && v == 0)
none_of_sum n v = grind (arith, nat_tests)

and_assoc : (a b c : Bool) → ((a && b) && c) ≡ (a && (b && c))
and_assoc true b c = refl
and_assoc false b c = refl

-- digits are worth nothing exactly where all are 0
pub no_value : (n : ℕ) (ds : List ℕ) → AllDigits 10 ds → (digits_value_after 10 n ds == 0) ≡ (n == 0 && list_all is_zero ds)
no_value n [] h = and_true (n == 0)
  where
    and_true : (b : Bool) → b ≡ (b && true)
    and_true true = refl
    and_true false = refl
no_value n (d ∷ ds) h =
    no_value (n * 10 + digit_value d) ds h.1
    ∙ ap (λ (b : Bool). b && list_all is_zero ds) (none_of_sum n (digit_value d) ∙ ap (λ (b : Bool). n == 0 && b) (is_zero_digit d h.0))
    ∙ and_assoc (n == 0) (is_zero d) (list_all is_zero ds)
