-- Claims by owner, and trains as they are told.
use Rattle.std.proofs.Common.{Less, ◌≡◌, ◌⊎◌, ℕ, ◌<◌, false, List, get_or, sym, subst, ap, inl, inr, refl, arith}
use Rattle.std.specs.Prelude.{ℤ, ◌<ℤ◌}
use Rattle.std.specs.List.{AllPairs}
use Rattle.std.specs.List.Sorted.{IsSortedBy}
use Rattle.std.specs.Ordering.{nat_cmp, int_cmp, ordering_then, is_lt, on, then_cmp}
use Rattle.std.proofs.lemmas.Cmp.{by_ranked, ranked, int_ranked, then_total, on_total, nat_cmp_total, int_cmp_total}
use Rattle.std.proofs.lemmas.List.Sorted.{sorted_far, ranks_by}
use Rattle.rail_types.specs.declared.entries.Owner.{Owner}
use Rattle.rail_types.specs.declared.entries.Owner.TheVariants.{Base, Entry}
use Rattle.rail_types.specs.Occupation.{HeldClaim}
use Rattle.capacity_406.specs.Selecting.{OwnerBefore}
use Rattle.capacity_406.specs.declared.stretch_trains.groups.Standing.{Standing}
use Rattle.capacity_406.specs.InsideStretch.{OwnerNoLater, StandsNoLater, key_of}

-- the number of the one is not less than that of the other
not_less : (a b : ℕ) → is_lt (nat_cmp b a) ≡ false → (a < b) ⊎ (a ≡ b)
not_less a b test = by_ranked (b < a) (b ≡ a) (a < b) (nat_cmp b a) (ranked b a _ refl)
    (λ less lower. let t : is_lt Less ≡ false = subst (λ o. is_lt o ≡ false) less test in absurd (cc))
    (λ equal same. inr (sym same))
    (λ greater higher. inl higher)

pub owners_sorted : (a b : Owner) → is_lt (ordering_then (nat_cmp (key_of b).0 (key_of a).0) (nat_cmp (key_of b).1 (key_of a).1)) ≡ false → OwnerBefore a b ⊎ (a ≡ b)
owners_sorted (Base a) (Base b) test = elim (not_less a b test) [ inl less ↦ inl less | inr same ↦ inr (ap Base same) ]
owners_sorted (Base a) (Entry b) test = inl tt
owners_sorted (Entry a) (Base b) test = let t : is_lt Less ≡ false = test in absurd (cc)
owners_sorted (Entry a) (Entry b) test = elim (not_less a b test) [ inl less ↦ inl less | inr same ↦ inr (ap Entry same) ]

pub sorted_by_owner : (taken : List HeldClaim) → IsSortedBy (λ one other. is_lt (ordering_then (nat_cmp (key_of one.1).0 (key_of other.1).0) (nat_cmp (key_of one.1).1 (key_of other.1).1))) taken → AllPairs OwnerNoLater taken
sorted_by_owner taken sorted i j other before within = owners_sorted (get_or taken i other).1 (get_or taken j other).1 (sorted_far (λ (one : HeldClaim) (other : HeldClaim). is_lt (ordering_then (nat_cmp (key_of one.1).0 (key_of other.1).0) (nat_cmp (key_of one.1).1 (key_of other.1).1))) (ranks_by {R = then_cmp (on (λ p. p.0) nat_cmp) (on (λ p. p.1) nat_cmp)} (then_total (on_total (λ (p : ℕ × ℕ). p.0) nat_cmp_total) (on_total (λ (p : ℕ × ℕ). p.1) nat_cmp_total)) (λ (one : HeldClaim). key_of one.1)) taken sorted i j other (omega arith) within)

pub told_sorted : (a b : Standing) → is_lt (ordering_then (int_cmp b.first.span.from a.first.span.from) (ordering_then (nat_cmp (key_of b.owner).0 (key_of a.owner).0) (nat_cmp (key_of b.owner).1 (key_of a.owner).1))) ≡ false → StandsNoLater a b
told_sorted a b test =
    let owners = ordering_then (nat_cmp (key_of b.owner).0 (key_of a.owner).0) (nat_cmp (key_of b.owner).1 (key_of a.owner).1) in
    by_ranked (b.first.span.from <ℤ a.first.span.from) (b.first.span.from ≡ a.first.span.from) (a.first.span.from <ℤ b.first.span.from) (int_cmp b.first.span.from a.first.span.from) (int_ranked b.first.span.from a.first.span.from _ refl)
    (λ less early. let t : is_lt (ordering_then Less owners) ≡ false = subst (λ o. is_lt (ordering_then o owners) ≡ false) less test in absurd (cc))
    (λ equal same. let t : is_lt owners ≡ false = subst (λ o. is_lt (ordering_then o owners) ≡ false) equal test in inr (sym same, owners_sorted a.owner b.owner t))
    (λ greater late. inl late)

pub sorted_as_told : (standing : List Standing) → IsSortedBy (λ one other. is_lt (ordering_then (int_cmp one.first.span.from other.first.span.from) (ordering_then (nat_cmp (key_of one.owner).0 (key_of other.owner).0) (nat_cmp (key_of one.owner).1 (key_of other.owner).1)))) standing → AllPairs StandsNoLater standing
sorted_as_told standing sorted i j other before within = told_sorted (get_or standing i other) (get_or standing j other) (sorted_far (λ (one : Standing) (other : Standing). is_lt (ordering_then (int_cmp one.first.span.from other.first.span.from) (ordering_then (nat_cmp (key_of one.owner).0 (key_of other.owner).0) (nat_cmp (key_of one.owner).1 (key_of other.owner).1)))) (ranks_by {R = then_cmp (on (λ p. p.0) int_cmp) (on (λ p. p.1) (then_cmp (on (λ p. p.0) nat_cmp) (on (λ p. p.1) nat_cmp)))} (then_total (on_total (λ (p : ℤ × (ℕ × ℕ)). p.0) int_cmp_total) (on_total (λ (p : ℤ × (ℕ × ℕ)). p.1) (then_total (on_total (λ (p : ℕ × ℕ). p.0) nat_cmp_total) (on_total (λ (p : ℕ × ℕ). p.1) nat_cmp_total)))) (λ (one : Standing). (one.first.span.from, key_of one.owner))) standing sorted i j other (omega arith) within)
