-- Lists of which one element, or each, is changed.
use Rattle.std.proofs.Common.{◌≡◌, ◌≢◌, ◌⊎◌, ℕ, zero, suc, ◌<◌, List, [], ◌∷◌, length, map, get_or, set, slice_get, Option, Some, None, All, inl, inr, refl, ap, sym, subst, ◌∙◌, arith}
use Rattle.std.proofs.lemmas.Option.{same_Some, slice_get_within, slice_get-get_or, get_or_from_slice_get}
use Rattle.plan_core.specs.Parties.{changed_at}

module _ {X : Type 0} where
  -- what holds of all holds of each, and the other way round
  pub of_all : (P : X → Type 0) (xs : List X) (k : ℕ) (x : X) → All P xs → slice_get xs k ≡ Some x → P x
  of_all P xs k x all here = subst P (get_or_from_slice_get xs k x x here) (all k x (slice_get_within xs k x here))

  pub to_all : (P : X → Type 0) (xs : List X) → ((k : ℕ) (x : X) → slice_get xs k ≡ Some x → P x) → All P xs
  to_all P xs each k d within = each k (get_or xs k d) (slice_get-get_or xs k d within)

module _ {X : Type 0} where
  pub length_changed : (k : ℕ) (f : X → X) (xs : List X) → length (changed_at k f xs) ≡ length xs
  length_changed k f [] = refl
  length_changed zero f (x ∷ xs) = refl
  length_changed (suc k) f (x ∷ xs) = ap suc (length_changed k f xs)

  -- an element of the changed list is the one that was changed, or another
  pub changed_cases : (k : ℕ) (f : X → X) (xs : List X) (j : ℕ) (y : X) → slice_get (changed_at k f xs) j ≡ Some y → ((x : X) × (j ≡ k) × (slice_get xs k ≡ Some x) × (y ≡ f x)) ⊎ ((j ≢ k) × (slice_get xs j ≡ Some y))
  changed_cases k f [] j y here = let wrong : ◌≡◌ {A = Option X} None (Some y) = here in cc
  changed_cases zero f (x ∷ xs) zero y here = inl (x, refl, refl, sym (same_Some (f x) y here))
  changed_cases zero f (x ∷ xs) (suc j) y here = inr (λ same. omega (arith, same), here)
  changed_cases (suc k) f (x ∷ xs) zero y here = inr (λ same. omega (arith, same), here)
  changed_cases (suc k) f (x ∷ xs) (suc j) y here = elim (changed_cases k f xs j y here) [
    | inl same ↦ inl (same.0, ap suc same.1, same.2, same.3)
    | inr other ↦ inr (λ same. other.0 (omega (arith, same)), other.1)
  ]

  pub changed_same : (k : ℕ) (f : X → X) (xs : List X) (x : X) → slice_get xs k ≡ Some x → slice_get (changed_at k f xs) k ≡ Some (f x)
  changed_same k f [] x here = let wrong : ◌≡◌ {A = Option X} None (Some x) = here in cc
  changed_same zero f (y ∷ ys) x here = ap (λ z. Some (f z)) (same_Some y x here)
  changed_same (suc k) f (y ∷ ys) x here = changed_same k f ys x here

  pub changed_other : (k : ℕ) (f : X → X) (xs : List X) (j : ℕ) → j ≢ k → slice_get (changed_at k f xs) j ≡ slice_get xs j
  changed_other k f [] j differ = refl
  changed_other zero f (y ∷ ys) zero differ = absurd (differ refl)
  changed_other zero f (y ∷ ys) (suc j) differ = refl
  changed_other (suc k) f (y ∷ ys) zero differ = refl
  changed_other (suc k) f (y ∷ ys) (suc j) differ = changed_other k f ys j (λ same. differ (ap suc same))

  pub all_changed : (P : X → Type 0) (k : ℕ) (f : X → X) (xs : List X) → All P xs → ((x : X) → slice_get xs k ≡ Some x → P (f x)) → All P (changed_at k f xs)
  all_changed P k f xs all one = to_all P (changed_at k f xs) (λ j y here. elim (changed_cases k f xs j y here) [
    | inl same ↦ subst P (sym same.3) (one same.0 same.2)
    | inr other ↦ of_all P xs j y all other.1
  ])

  -- an element of a list of which each is changed
  pub mapped : {Y : Type 0} (f : X → Y) (xs : List X) (k : ℕ) (y : Y) → slice_get (map f xs) k ≡ Some y → (x : X) × (slice_get xs k ≡ Some x) × (y ≡ f x)
  mapped {Y = Y} f [] k y here = let wrong : ◌≡◌ {A = Option Y} None (Some y) = here in cc
  mapped f (x ∷ xs) zero y here = (x, refl, sym (same_Some (f x) y here))
  mapped f (x ∷ xs) (suc k) y here = mapped f xs k y here

  pub mapping : {Y : Type 0} (f : X → Y) (xs : List X) (k : ℕ) (x : X) → slice_get xs k ≡ Some x → slice_get (map f xs) k ≡ Some (f x)
  mapping f [] k x here = let wrong : ◌≡◌ {A = Option X} None (Some x) = here in cc
  mapping f (y ∷ ys) zero x here = ap (λ z. Some (f z)) (same_Some y x here)
  mapping f (y ∷ ys) (suc k) x here = mapping f ys k x here

  pub all_mapped : {Y : Type 0} (P : Y → Type 0) (f : X → Y) (xs : List X) → ((k : ℕ) (x : X) → slice_get xs k ≡ Some x → P (f x)) → All P (map f xs)
  all_mapped P f xs each = to_all P (map f xs) (λ k y here. let one = mapped f xs k y here in subst P (sym one.2) (each k one.0 one.1))

  -- a list as it is seen, of which one element is replaced by one that is seen changed
  pub map_set : {Y : Type 0} (v : Y → X) (f : X → X) (ys : List Y) (k : ℕ) (y d : Y) → k < length ys → v y ≡ f (v (get_or ys k d)) → map v (set ys k y) ≡ changed_at k f (map v ys)
  map_set v f [] k y d within seen = absurd (omega arith)
  map_set v f (z ∷ zs) zero y d within seen = ap (λ x. x ∷ map v zs) seen
  map_set v f (z ∷ zs) (suc k) y d within seen = ap (λ xs. v z ∷ xs) (map_set v f zs k y d (omega arith) seen)

  -- two lists of one length whose elements are seen to be the changed ones
  pub map_each : {Y : Type 0} (v : Y → X) (f : X → X) (ys zs : List Y) → length ys ≡ length zs → ((k : ℕ) (d : Y) → k < length zs → v (get_or ys k d) ≡ f (v (get_or zs k d))) → map v ys ≡ map f (map v zs)
  map_each v f [] [] same each = refl
  map_each v f [] (z ∷ zs) same each = absurd (omega (arith, same))
  map_each v f (y ∷ ys) [] same each = absurd (omega (arith, same))
  map_each v f (y ∷ ys) (z ∷ zs) same each = ap (λ x. x ∷ map v ys) (each zero z (omega arith)) ∙ ap (λ xs. f (v z) ∷ xs) (map_each v f ys zs (omega (arith, same)) (λ k d less. each (suc k) d (omega (arith, less))))
