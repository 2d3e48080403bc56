-- The number at the front of a text: what it takes, and that what stands behind it changes nothing.
use Rattle.std.proofs.Common.{◌≡◌, ℕ, zero, suc, cond, ◌==◌, ◌||◌, ◌&&◌, not, Bool, true, false, true≢false, ◌+◌, ◌<◌, List, [], ◌∷◌, ◌++◌, length, take, drop, refl, ap, arith, subst, sym, ◌∙◌, Option, Some, None, append_assoc, append-nil, length-append, length-take, slice_index}
use Rattle.std.proofs.lemmas.Bool.{and_parts, eqb-true, or_parts}
use Rattle.std.proofs.lemmas.Bool.Decides.{nat_tests}
use Rattle.std.proofs.lemmas.List.{take-append-drop}
use Rattle.std.proofs.lemmas.List.Folds.{list_all-append}
use Rattle.std.proofs.lemmas.List.Sums.{prefix_len-le-length}
use Rattle.std.proofs.Math.Seq.{take-append_seam, drop-append_seam}
use Rattle.std.specs.Prelude.{option_and_then}
use Rattle.std.specs.List.{prefix_len, list_all}
use Rattle.std.specs.Char.{is_ascii_digit}
use Rattle.decimal_quote.specs.Numbers.{begins, after_digits, after_minus, after_sign, after_whole, after_fraction, after_exponent, after_number, is_all, is_number, is_short_whole}
use Rattle.decimal_quote.specs.Quoted.{begins_run, is_number_byte, needs_marks}
use Rattle.decimal_quote.proofs.Longest.{front_passes, none_begins}

pub some_same : (x y : List ℕ) → Some x ≡ Some y → x ≡ y
some_same x y e = cc

pub none_some : (x : List ℕ) → ◌≡◌ {A = Option (List ℕ)} None (Some x) → ⊥
none_some x e = cc

first_same : (b c : ℕ) (s t : List ℕ) → b ∷ s ≡ c ∷ t → b ≡ c
first_same b c s t e = ap (λ (xs : List ℕ). slice_index xs 0) e

and_then_some : (f : List ℕ → Option (List ℕ)) (found : Option (List ℕ)) (r : List ℕ) → option_and_then f found ≡ Some r → (x : List ℕ) × (found ≡ Some x) × (f x ≡ Some r)
and_then_some f None r e = absurd (none_some r e)
and_then_some f (Some x) r e = (x, refl, e)

-- ---- bytes

digit_is_of_numbers : (b : ℕ) → is_ascii_digit b ≡ true → is_number_byte b ≡ true
digit_is_of_numbers b h = ap (λ (d : Bool). d || b == 43 || b == 45 || b == 46 || b == 101 || b == 69) h

digits_are_of_numbers : (p : List ℕ) → list_all is_ascii_digit p ≡ true → list_all is_number_byte p ≡ true
digits_are_of_numbers [] h = refl
digits_are_of_numbers (b ∷ p) h =
    let two = and_parts (is_ascii_digit b) (list_all is_ascii_digit p) h in
    ap (λ (t : Bool). t && list_all is_number_byte p) (digit_is_of_numbers b two.0) ∙ digits_are_of_numbers p two.1

all_of_both : (p q : List ℕ) → list_all is_number_byte p ≡ true → list_all is_number_byte q ≡ true → list_all is_number_byte (p ++ q) ≡ true
all_of_both p q h k = list_all-append is_number_byte p q ∙ ap (λ (z : Bool). z && list_all is_number_byte q) h ∙ k

-- what a byte is not that is not of numbers
not_of_numbers : (b : ℕ) → is_number_byte b ≡ false → (is_ascii_digit b ≡ false) × ((b == 46) ≡ false) × ((b == 101 || b == 69) ≡ false)
not_of_numbers b h =
    let letter = or_parts (is_ascii_digit b || b == 43 || b == 45 || b == 46 || b == 101) (b == 69) h in
    let small = or_parts (is_ascii_digit b || b == 43 || b == 45 || b == 46) (b == 101) letter.0 in
    let point = or_parts (is_ascii_digit b || b == 43 || b == 45) (b == 46) small.0 in
    let minus = or_parts (is_ascii_digit b || b == 43) (b == 45) point.0 in
    ((or_parts (is_ascii_digit b) (b == 43) minus.0).0, point.1, ap (λ (t : Bool). t || b == 69) small.1 ∙ letter.1)

abbrev IsExponentByte : ℕ → Type 0
IsExponentByte b = (is_number_byte b ≡ true) × (is_ascii_digit b ≡ false) × ((b == 46) ≡ false)

exponent_byte : (b : ℕ) → (b == 101 || b == 69) ≡ true → IsExponentByte b
exponent_byte b h = by (b == 101) refl h
  where
    by : (t : Bool) → (b == 101) ≡ t → (t || b == 69) ≡ true → IsExponentByte b
    by true is h = subst IsExponentByte (sym (eqb-true b 101 is)) (refl, refl, refl)
    by false is h = subst IsExponentByte (sym (eqb-true b 69 h)) (refl, refl, refl)

-- ---- runs

-- bytes that all pass before a rest
prefix_over : (pass : ℕ → Bool) (p r : List ℕ) → list_all pass p ≡ true → prefix_len pass (p ++ r) ≡ length p + prefix_len pass r
prefix_over pass [] r h = omega arith
prefix_over pass (b ∷ p) r h =
    let two = and_parts (pass b) (list_all pass p) h in
    let first : prefix_len pass ((b ∷ p) ++ r) ≡ 1 + prefix_len pass (p ++ r) =
    ap (λ (t : Bool). cond t (1 + prefix_len pass (p ++ r)) 0) two.0 in
    let rest = prefix_over pass p r two.1 in omega (arith, first, rest)

front : (pass : ℕ → Bool) (t : List ℕ) → (list_all pass (take (prefix_len pass t) t) ≡ true) × (prefix_len pass (drop (prefix_len pass t) t) ≡ 0)
front pass t =
    let within = prefix_len-le-length pass t in
    front_passes pass (take (prefix_len pass t) t) (drop (prefix_len pass t) t)
    (length-take (prefix_len pass t) t ∙ omega (arith, within)
    ∙ ap (prefix_len pass) (sym (take-append-drop (prefix_len pass t) t)))

no_run : (r : List ℕ) → begins_run r ≡ false → prefix_len is_number_byte r ≡ 0
no_run [] h = refl
no_run (b ∷ r) h = ap (λ (t : Bool). cond t (1 + prefix_len is_number_byte r) 0) h

-- ---- digits

abbrev begins_digit : List ℕ → Bool
begins_digit [] = false
begins_digit (b ∷ _) = is_ascii_digit b

no_digit : (r : List ℕ) → begins_digit r ≡ false → prefix_len is_ascii_digit r ≡ 0
no_digit [] h = refl
no_digit (b ∷ r) h = ap (λ (t : Bool). cond t (1 + prefix_len is_ascii_digit r) 0) h

not_zero : (n : ℕ) → 0 < n → (n == 0) ≡ false
not_zero n h = grind (arith, nat_tests)

some_by_test : (n : ℕ) → (n == 0) ≡ false → 0 < n
some_by_test zero h = absurd (true≢false h)
some_by_test (suc n) h = omega arith

digits : (t r : List ℕ) → after_digits t ≡ Some r → (p : List ℕ) × (t ≡ p ++ r) × (0 < length p) × (list_all is_ascii_digit p ≡ true)
digits t r e = by (prefix_len is_ascii_digit t == 0) refl e
  where
    by : (none : Bool) → (prefix_len is_ascii_digit t == 0) ≡ none
        → cond none None (Some (drop (prefix_len is_ascii_digit t) t)) ≡ Some r
        → (p : List ℕ) × (t ≡ p ++ r) × (0 < length p) × (list_all is_ascii_digit p ≡ true)
    by true is e = absurd (none_some r e)
    by false is e =
        let within = prefix_len-le-length is_ascii_digit t in
        let some = some_by_test (prefix_len is_ascii_digit t) is in
        let long = length-take (prefix_len is_ascii_digit t) t in (
          take (prefix_len is_ascii_digit t) t,
          sym (take-append-drop (prefix_len is_ascii_digit t) t)
              ∙ ap (λ (xs : List ℕ). take (prefix_len is_ascii_digit t) t ++ xs)
              (some_same (drop (prefix_len is_ascii_digit t) t) r e),
          omega (arith, within, some, long),
          (front is_ascii_digit t).0,
        )

digits_again : (p r : List ℕ) → 0 < length p → list_all is_ascii_digit p ≡ true → begins_digit r ≡ false → after_digits (p ++ r) ≡ Some r
digits_again p r some all stop =
    let over = prefix_over is_ascii_digit p r all in
    let none = no_digit r stop in
    let long : prefix_len is_ascii_digit (p ++ r) ≡ length p = omega (arith, over, none) in
    ap (λ (n : ℕ). cond (n == 0) None (Some (drop n (p ++ r)))) long
    ∙ ap (λ (none : Bool). cond none None (Some (drop (length p) (p ++ r)))) (not_zero (length p) some)
    ∙ ap (λ (xs : List ℕ). Some xs) (drop-append_seam p r)

-- ---- one byte that may stand at the front

module _ (test : ℕ → Bool) (behind : List ℕ → List ℕ) (of_none : behind [] ≡ [])
    (of_some : (b : ℕ) (t : List ℕ) → behind (b ∷ t) ≡ cond (test b) t (b ∷ t))
    (of_numbers : (b : ℕ) → test b ≡ true → is_number_byte b ≡ true) where
  Strips : List ℕ → Type 0
  Strips t =
      (p : List ℕ) × (t ≡ p ++ behind t) × (list_all is_number_byte p ≡ true)
      × ((q w x : List ℕ) → 0 < length q → behind t ≡ q ++ w → behind (p ++ (q ++ x)) ≡ q ++ x)

  strips : (t : List ℕ) → Strips t
  unfolding Strips
  strips [] = (
    [],
    sym of_none,
    refl,
    λ q w x some e. absurd (
        let long = ap length (sym of_none ∙ e) in let whole = length-append q w in omega (arith, long, whole, some)),
  )
  strips (b ∷ t) = by (test b) refl
    where
      kept : test b ≡ false → (q w x : List ℕ) → 0 < length q → behind (b ∷ t) ≡ q ++ w → behind (q ++ x) ≡ q ++ x
      kept is [] w x some e = absurd (omega (arith, some))
      kept is (c ∷ q) w x some e =
          let same : c ≡ b = first_same c b (q ++ w) t
          (sym e ∙ of_some b t ∙ ap (λ (z : Bool). cond z t (b ∷ t)) is) in
          of_some c (q ++ x) ∙ ap (λ (z : Bool). cond z (q ++ x) (c ∷ (q ++ x))) (ap test same ∙ is)

      by : (z : Bool) → test b ≡ z → Strips (b ∷ t)
      by true is = (
        b ∷ [],
        ap (λ (xs : List ℕ). b ∷ xs) (sym (of_some b t ∙ ap (λ (z : Bool). cond z t (b ∷ t)) is)),
        ap (λ (z : Bool). z && true) (of_numbers b is),
        λ q w x some e. of_some b (q ++ x) ∙ ap (λ (z : Bool). cond z (q ++ x) (b ∷ (q ++ x))) is,
      )
      by false is = ([], sym (of_some b t ∙ ap (λ (z : Bool). cond z t (b ∷ t)) is), refl, kept is)

minus_byte : (b : ℕ) → (b == 45) ≡ true → is_number_byte b ≡ true
minus_byte b h = subst (λ (x : ℕ). is_number_byte x ≡ true) (sym (eqb-true b 45 h)) refl

sign_byte : (b : ℕ) → (b == 43 || b == 45) ≡ true → is_number_byte b ≡ true
sign_byte b h = by (b == 43) refl h
  where
    by : (t : Bool) → (b == 43) ≡ t → (t || b == 45) ≡ true → is_number_byte b ≡ true
    by true is h = subst (λ (x : ℕ). is_number_byte x ≡ true) (sym (eqb-true b 43 is)) refl
    by false is h = minus_byte b h

minus : (t : List ℕ) → Strips (λ (b : ℕ). b == 45) after_minus refl (λ b t. refl) minus_byte t
minus t = strips (λ (b : ℕ). b == 45) after_minus refl (λ b t. refl) minus_byte t

sign : (t : List ℕ) → Strips (λ (b : ℕ). b == 43 || b == 45) after_sign refl (λ b t. refl) sign_byte t
sign t = strips (λ (b : ℕ). b == 43 || b == 45) after_sign refl (λ b t. refl) sign_byte t

-- ---- the parts of a number: what they take, and that they take it before any rest that stops them

abbrev Whole : List ℕ → List ℕ → Type 0
Whole t r =
    (p : List ℕ) × (t ≡ p ++ r) × (0 < length p) × (list_all is_number_byte p ≡ true)
    × ((other : List ℕ) → begins_digit other ≡ false → after_whole (p ++ other) ≡ Some other)

whole : (t r : List ℕ) → after_whole t ≡ Some r → Whole t r
whole [] r e = absurd (none_some r e)
whole (b ∷ t) r e = by (b == 48) refl e
  where
    zero_byte : (b == 48) ≡ true → is_number_byte b ≡ true
    zero_byte is = subst (λ (x : ℕ). is_number_byte x ≡ true) (sym (eqb-true b 48 is)) refl

    again : (b == 48) ≡ false → (p : List ℕ) → b ∷ t ≡ p ++ r → 0 < length p → list_all is_ascii_digit p ≡ true
        → (other : List ℕ) → begins_digit other ≡ false → after_whole (p ++ other) ≡ Some other
    again is [] split some all other stop = absurd (omega (arith, some))
    again is (c ∷ q) split some all other stop =
        let same : c ≡ b = sym (first_same b c t (q ++ r) split) in
        ap (λ (z : Bool). cond z (Some (q ++ other)) (after_digits (c ∷ (q ++ other)))) (ap (λ (x : ℕ). x == 48) same ∙ is)
        ∙ digits_again (c ∷ q) other some all stop

    by : (z : Bool) → (b == 48) ≡ z → cond z (Some t) (after_digits (b ∷ t)) ≡ Some r → Whole (b ∷ t) r
    by true is e = (
      b ∷ [],
      ap (λ (xs : List ℕ). b ∷ xs) (some_same t r e),
      omega arith,
      ap (λ (z : Bool). z && true) (zero_byte is),
      λ other stop. ap (λ (z : Bool). cond z (Some other) (after_digits (b ∷ other))) is,
    )
    by false is e =
        let taken = digits (b ∷ t) r e in
        (taken.0, taken.1, taken.2, digits_are_of_numbers taken.0 taken.3, again is taken.0 taken.1 taken.2 taken.3)

-- neither a digit nor a point is next
abbrev IsPast : List ℕ → Type 0
IsPast t = (begins_digit t ≡ false) × (begins 46 t ≡ false)

abbrev Fraction : List ℕ → List ℕ → Type 0
Fraction t r =
    (p : List ℕ) × (t ≡ p ++ r) × (list_all is_number_byte p ≡ true)
    × ((other : List ℕ) → IsPast other → (begins_digit (p ++ other) ≡ false) × (after_fraction (p ++ other) ≡ Some other))

no_fraction : (t : List ℕ) → IsPast t → (begins_digit t ≡ false) × (after_fraction t ≡ Some t)
no_fraction t past = (past.0, ap (λ (z : Bool). cond z (after_digits (drop 1 t)) (Some t)) past.1)

fraction : (t r : List ℕ) → after_fraction t ≡ Some r → Fraction t r
fraction [] r e = ([], some_same [] r e, refl, no_fraction)
fraction (b ∷ t) r e = by (b == 46) refl e
  where
    point : (b == 46) ≡ true → (is_number_byte b ≡ true) × (is_ascii_digit b ≡ false)
    point is = subst (λ (x : ℕ). (is_number_byte x ≡ true) × (is_ascii_digit x ≡ false)) (sym (eqb-true b 46 is)) (refl, refl)

    by : (z : Bool) → (b == 46) ≡ z → cond z (after_digits t) (Some (b ∷ t)) ≡ Some r → Fraction (b ∷ t) r
    by true is e =
        let taken = digits t r e in (
          b ∷ taken.0,
          ap (λ (xs : List ℕ). b ∷ xs) taken.1,
          ap (λ (z : Bool). z && list_all is_number_byte taken.0) (point is).0 ∙ digits_are_of_numbers taken.0 taken.3,
          λ other past. (
            (point is).1,
            ap (λ (z : Bool). cond z (after_digits (taken.0 ++ other)) (Some (b ∷ (taken.0 ++ other)))) is
                ∙ digits_again taken.0 other taken.2 taken.3 past.0,
          ),
        )
    by false is e = ([], some_same (b ∷ t) r e, refl, no_fraction)

abbrev Exponent : List ℕ → List ℕ → Type 0
Exponent t r =
    (p : List ℕ) × (t ≡ p ++ r) × (list_all is_number_byte p ≡ true)
    × ((other : List ℕ) → begins_run other ≡ false → IsPast (p ++ other) × (after_exponent (p ++ other) ≡ Some other))

no_exponent : (t : List ℕ) → begins_run t ≡ false → IsPast t × (after_exponent t ≡ Some t)
no_exponent [] stop = ((refl, refl), refl)
no_exponent (b ∷ t) stop =
    let kind = not_of_numbers b stop in
    ((kind.0, kind.1), ap (λ (z : Bool). cond z (after_digits (after_sign t)) (Some (b ∷ t))) kind.2)

exponent : (t r : List ℕ) → after_exponent t ≡ Some r → Exponent t r
unfolding Strips
exponent [] r e = ([], some_same [] r e, refl, no_exponent)
exponent (b ∷ t) r e = by (b == 101 || b == 69) refl e
  where
    by : (z : Bool) → (b == 101 || b == 69) ≡ z → cond z (after_digits (after_sign t)) (Some (b ∷ t)) ≡ Some r → Exponent (b ∷ t) r
    by true is e =
        let kind = exponent_byte b is in
        let signed = sign t in
        let taken = digits (after_sign t) r e in (
          b ∷ (signed.0 ++ taken.0),
          ap (λ (xs : List ℕ). b ∷ xs)
              (signed.1 ∙ ap (λ (xs : List ℕ). signed.0 ++ xs) taken.1 ∙ sym (append_assoc signed.0 taken.0 r)),
          ap (λ (z : Bool). z && list_all is_number_byte (signed.0 ++ taken.0)) kind.0
              ∙ all_of_both signed.0 taken.0 signed.2 (digits_are_of_numbers taken.0 taken.3),
          λ other stop. (
            (kind.1, kind.2),
            ap (λ (z : Bool). cond z (after_digits (after_sign ((signed.0 ++ taken.0) ++ other))) (Some (b ∷ ((signed.0 ++ taken.0) ++ other)))) is
                ∙ ap (λ (xs : List ℕ). after_digits (after_sign xs)) (append_assoc signed.0 taken.0 other)
                ∙ ap after_digits (signed.3 taken.0 r other taken.2 taken.1)
                ∙ digits_again taken.0 other taken.2 taken.3 ((no_exponent other stop).0.0),
          ),
        )
    by false is e = ([], some_same (b ∷ t) r e, refl, no_exponent)

-- ---- the number

abbrev pub Number : List ℕ → List ℕ → Type 0
Number t r =
    (p : List ℕ) × (t ≡ p ++ r) × (list_all is_number_byte p ≡ true)
    × ((other : List ℕ) → begins_run other ≡ false → after_number (p ++ other) ≡ Some other)

pub number : (t r : List ℕ) → after_number t ≡ Some r → Number t r
unfolding Strips
number t r e =
    let before_exponent = and_then_some after_exponent (option_and_then after_fraction (after_whole (after_minus t))) r e in
    let before_fraction = and_then_some after_fraction (after_whole (after_minus t)) before_exponent.0 before_exponent.1 in
    let m = minus t in
    let w = whole (after_minus t) before_fraction.0 before_fraction.1 in
    let f = fraction before_fraction.0 before_exponent.0 before_fraction.2 in
    let x = exponent before_exponent.0 r before_exponent.2 in
    let joined : (other : List ℕ) → (m.0 ++ (w.0 ++ (f.0 ++ x.0))) ++ other ≡ m.0 ++ (w.0 ++ (f.0 ++ (x.0 ++ other))) =
    λ other. append_assoc m.0 (w.0 ++ (f.0 ++ x.0)) other
    ∙ ap (λ (xs : List ℕ). m.0 ++ xs) (append_assoc w.0 (f.0 ++ x.0) other
    ∙ ap (λ (xs : List ℕ). w.0 ++ xs) (append_assoc f.0 x.0 other)) in (
      m.0 ++ (w.0 ++ (f.0 ++ x.0)),
      m.1 ∙ ap (λ (xs : List ℕ). m.0 ++ xs) (w.1 ∙ ap (λ (xs : List ℕ). w.0 ++ xs)
          (f.1 ∙ ap (λ (xs : List ℕ). f.0 ++ xs) x.1)) ∙ sym (joined r),
      all_of_both m.0 (w.0 ++ (f.0 ++ x.0)) m.2
          (all_of_both w.0 (f.0 ++ x.0) w.3 (all_of_both f.0 x.0 f.2 x.2)),
      λ other stop.
          let past = x.3 other stop in
          let on = f.3 (x.0 ++ other) past.0 in
          ap after_number (joined other)
          ∙ ap (λ (xs : List ℕ). option_and_then after_exponent (option_and_then after_fraction (after_whole xs)))
          (m.3 w.0 before_fraction.0 (f.0 ++ (x.0 ++ other)) w.2 w.1)
          ∙ ap (λ (found : Option (List ℕ)). option_and_then after_exponent (option_and_then after_fraction found))
          (w.4 (f.0 ++ (x.0 ++ other)) on.0)
          ∙ ap (λ (found : Option (List ℕ)). option_and_then after_exponent found) on.1
          ∙ past.1,
    )

-- ---- the piece of a text that begins with a byte of numbers

-- where a number is read and no byte of numbers stands behind it, it is the piece
pub is_piece : (t r : List ℕ) → after_number t ≡ Some r → begins_run r ≡ false
    → (length t ≡ prefix_len is_number_byte t + length r) × (is_number (take (prefix_len is_number_byte t) t) ≡ true)
is_piece t r e stop =
    let found = number t r e in
    let over = prefix_over is_number_byte found.0 r found.2 in
    let none = no_run r stop in
    let same : prefix_len is_number_byte t ≡ length found.0 = ap (prefix_len is_number_byte) found.1 ∙ omega (arith, over, none) in
    let long = ap length found.1 ∙ length-append found.0 r in
    let front_is : take (prefix_len is_number_byte t) t ≡ found.0 ++ [] =
    ap (λ (n : ℕ). take n t) same ∙ ap (take (length found.0)) found.1 ∙ take-append_seam found.0 r ∙ sym (append-nil found.0) in
    (omega (arith, same, long), ap is_number front_is ∙ ap is_all (found.3 [] refl))

all_is : (found : Option (List ℕ)) → is_all found ≡ true → found ≡ Some []
all_is None h = absurd (true≢false (sym h))
all_is (Some []) h = refl
all_is (Some (b ∷ t)) h = absurd (true≢false (sym h))

-- where no number is read, or a byte of numbers stands behind it, the piece is no number that needs marks
pub is_none : (t : List ℕ) → ((r : List ℕ) → after_number t ≡ Some r → begins_run r ≡ true)
    → needs_marks (take (prefix_len is_number_byte t) t) ≡ false
is_none t goes_on = by (is_number (take (prefix_len is_number_byte t) t)) refl
  where
    by : (z : Bool) → is_number (take (prefix_len is_number_byte t) t) ≡ z
        → (z && not (is_short_whole (take (prefix_len is_number_byte t) t))) ≡ false
    by false is = refl
    by true is =
        let piece : List ℕ = take (prefix_len is_number_byte t) t in
        let rest : List ℕ = drop (prefix_len is_number_byte t) t in
        let found = number piece [] (all_is (after_number piece) is) in
        let stop = none_begins rest (front is_number_byte t).1 in
        let whole_text : found.0 ++ rest ≡ t =
        ap (λ (xs : List ℕ). xs ++ rest) (sym (append-nil found.0) ∙ sym found.1) ∙ take-append-drop (prefix_len is_number_byte t) t in
        let again : after_number t ≡ Some rest = ap after_number (sym whole_text) ∙ found.3 rest stop in
        absurd (true≢false (sym (goes_on rest again) ∙ stop))
