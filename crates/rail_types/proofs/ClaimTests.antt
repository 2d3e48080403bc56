-- What the tests of two claims mean.
use Rattle.std.proofs.Common.{◌≡◌, ℕ, ◌<◌, ◌<ℤ◌, ◌⊎◌, Bool, true, false, nat_lt, nat_eq, int_lt, ◌||◌, inl, inr, sym, refl, arith, ℤ}
use Rattle.std.proofs.lemmas.Bool.{and_parts, and_from, or_cases, cases_lt, cases_order}
use Rattle.std.proofs.lemmas.Bool.Decides.{nat_tests}
use Rattle.std.proofs.lemmas.Int.{ints, by_lt_z}
use Rattle.std.proofs.lemmas.Grind.{common_steps}
use Rattle.rail_types.specs.declared.paths.Claim.{Claim}
use Rattle.rail_types.specs.Occupation.{Clash}
use Rattle.rail_types.specs.FirstClash.{clashes, is_before, IsBefore}

int_lt_is : (x y : ℤ) → int_lt x y ≡ true → x <ℤ y
int_lt_is x y test = omega (arith, ints)

is_int_lt : (x y : ℤ) → x <ℤ y → int_lt x y ≡ true
is_int_lt x y less = grind (arith, ints)

nat_lt_is : (x y : ℕ) → nat_lt x y ≡ true → x < y
nat_lt_is x y test = grind (arith, nat_tests)

is_nat_lt : (x y : ℕ) → x < y → nat_lt x y ≡ true
is_nat_lt x y less = grind (arith, nat_tests)

nat_eq_is : (x y : ℕ) → nat_eq x y ≡ true → x ≡ y
nat_eq_is x y test = grind (arith, nat_tests)

is_nat_eq : (x y : ℕ) → x ≡ y → nat_eq x y ≡ true
is_nat_eq x y same = grind (arith, nat_tests)

pub clash_is : (a b : Claim) → clashes a b ≡ true → Clash a b
clash_is a b test =
    let parts = and_parts _ _ test in
    let spans = and_parts _ _ parts.1 in
    (nat_eq_is _ _ parts.0, (int_lt_is _ _ spans.0, int_lt_is _ _ spans.1))

pub is_clash : (a b : Claim) → Clash a b → clashes a b ≡ true
is_clash a b clash = and_from _ _ (is_nat_eq _ _ clash.0) (and_from _ _ (is_int_lt _ _ clash.1.0) (is_int_lt _ _ clash.1.1))

-- a clash is the same from either side
pub clash_back : (a b : Claim) → Clash a b → Clash b a
clash_back a b clash = (sym clash.0, (clash.1.1, clash.1.0))

pub before_is : (a b : Claim) → is_before a b ≡ true → IsBefore a b
before_is a b test = elim (or_cases _ _ test) [
  | inl lower ↦ inl (nat_lt_is _ _ lower)
  | inr same ↦ let parts = and_parts _ _ same in inr (nat_eq_is _ _ parts.0, int_lt_is _ _ parts.1)
]

or_from : (x y : Bool) → (x ≡ true) ⊎ (y ≡ true) → (x || y) ≡ true
or_from x y either = grind (arith, common_steps)

pub is_before_when : (a b : Claim) → IsBefore a b → is_before a b ≡ true
is_before_when a b (inl lower) = or_from _ _ (inl (is_nat_lt _ _ lower))
is_before_when a b (inr same) = or_from _ _ (inr (and_from _ _ (is_nat_eq _ _ same.0) (is_int_lt _ _ same.1)))

-- what is not true is false
pub false_when_not : (b : Bool) → ¬ (b ≡ true) → b ≡ false
false_when_not true wrong = absurd (wrong refl)
false_when_not false wrong = refl

pub not_before : (a b : Claim) → ¬ IsBefore a b → is_before a b ≡ false
not_before a b late = false_when_not _ (λ test. late (before_is a b test))

-- no claim is before itself
pub not_before_itself : (a : Claim) → is_before a a ≡ false
not_before_itself a = not_before a a (λ before. elim before [ inl lower ↦ omega arith | inr same ↦ let less = same.1 in omega (arith, ints) ])

-- what is before a claim is before each that the claim is before
pub before_both : (a b c : Claim) → is_before a b ≡ true → is_before b c ≡ true → is_before a c ≡ true
before_both a b c first second = is_before_when a c (both (before_is a b first) (before_is b c second))
  where
    both : IsBefore a b → IsBefore b c → IsBefore a c
    both (inl lower) (inl higher) = inl (omega arith)
    both (inl lower) (inr same) = let zone = same.0 in inl (omega arith)
    both (inr same) (inl higher) = let zone = same.0 in inl (omega arith)
    both (inr same) (inr later) = inr (let zone = same.0 in let zones = later.0 in omega arith, let less = same.1 in let more = later.1 in omega (arith, ints))

-- of a claim that is before another, each third is behind it or before the other
pub before_either : (a b c : Claim) → is_before a b ≡ true → is_before c b ≡ false → is_before a c ≡ true
before_either a b c first late = is_before_when a c (either (before_is a b first))
  where
    not_late : ¬ IsBefore c b
    not_late before = let test = is_before_when c b before in cc

    either : IsBefore a b → IsBefore a c
    either (inl lower) = elim (cases_lt a.zone c.zone) [
      | inl below ↦ inl below
      | inr beyond ↦ absurd (not_late (inl (omega arith)))
    ]
    either (inr same) = elim (cases_order a.zone c.zone) [
      | inl level ↦ by_lt_z a.span.from c.span.from (λ less. inr (level, less)) (λ more. absurd (not_late (inr (let zone = same.0 in omega arith, let begins = same.1 in omega (arith, ints)))))
      | inr apart ↦ elim apart [
        | inl below ↦ inl below
        | inr beyond ↦ absurd (not_late (inl (let zone = same.0 in omega arith)))
      ]
    ]
