-- The first detector at or after a signal, in either direction.
use Rattle.std.proofs.Common.{◌≡◌, ℕ, zero, suc, ◌-◌, ◌*◌, ◌<◌, ◌≤◌, Bool, true, false, List, [], ◌∷◌, length, filter, Some, None, slice_get, slice_index_or, nat_le, nat_lt, refl, sym, ap, arith, inl, inr}
use native.Mathlib.Decide.{ℕ_discrete}
use Rattle.std.specs.List.{AllPairs, AllWithin, Contains}
use Rattle.std.specs.List.Sorted.{IsNonDecreasingBy}
use Rattle.std.proofs.lemmas.Option.{slice_get_within, get_or_from_slice_get}
use Rattle.track_graph.specs.declared.stands.Stand.{Stand}
use Rattle.track_graph.specs.Stands.{AreStands, ComesBefore}
use Rattle.rail_types.specs.declared.infra_types.ends.Direction.{Direction}
use Rattle.rail_types.specs.declared.infra_types.tracks.Placed.{Placed}
use Rattle.rail_types.specs.declared.infra_types.ends.Direction.TheVariants.{StartToStop, StopToStart}
use Rattle.signal_blocks.specs.Posts.{first_in, point_of}

no_later : (a b : Stand) → ComesBefore a b → a.position ≤ b.position
no_later a b (inl lt) = omega (arith, lt)
no_later a b (inr both) = let same = both.0 in omega (arith, same)

pub onward : (stands : List Stand) → AllPairs ComesBefore stands → IsNonDecreasingBy (λ stand. stand.position) stands
onward stands order i j d le lt = elim (ℕ_discrete i j) [
  | yes same ↦ rw same (omega arith)
  | no apart ↦ no_later (slice_index_or stands i d) (slice_index_or stands j d) (order i j d (omega (arith, le, apart)) lt)
]

module _ {X : Type 0} (p : X → Bool) where
  -- where the first ones fail the test and the others pass it, the first that passes stands behind them
  pub first_behind : (xs : List X) (i : ℕ) → AllWithin (λ x. p x ≡ false) xs 0 i → AllWithin (λ x. p x ≡ true) xs i (length xs) → slice_get (filter p xs) 0 ≡ slice_get xs i
  first_behind [] i low high = refl
  first_behind (x ∷ xs) zero low high = rw (high 0 x (omega arith) (omega arith)) refl
  first_behind (x ∷ xs) (suc i) low high =
      rw (low 0 x (omega arith) (omega arith)) (first_behind xs i (λ k d ge lt. low (suc k) d (omega arith) (omega (arith, lt))) (λ k d ge lt. high (suc k) d (omega (arith, ge)) (omega (arith, lt))))

  none_pass : (xs : List X) → AllWithin (λ x. p x ≡ false) xs 0 (length xs) → filter p xs ≡ []
  none_pass [] all = refl
  none_pass (x ∷ xs) all = rw (all 0 x (omega arith) (omega arith)) (none_pass xs (λ k d ge lt. all (suc k) d (omega arith) (omega (arith, lt))))

  -- where the first ones pass the test and the others fail it, those that pass are the first ones
  pub front_pass : (xs : List X) (i : ℕ) → i ≤ length xs → AllWithin (λ x. p x ≡ true) xs 0 i → AllWithin (λ x. p x ≡ false) xs i (length xs) → (length (filter p xs) ≡ i) × ((k : ℕ) → k < i → slice_get (filter p xs) k ≡ slice_get xs k)
  front_pass [] i le low high = (omega (arith, le), λ k lt. refl)
  front_pass (x ∷ xs) zero le low high = let none = none_pass (x ∷ xs) high in rw none (refl, λ k lt. absurd (omega (arith, lt)))
  front_pass (x ∷ xs) (suc i) le low high =
      let rest = front_pass xs i (omega (arith, le)) (λ k d ge lt. low (suc k) d (omega arith) (omega (arith, lt))) (λ k d ge lt. high (suc k) d (omega (arith, ge)) (omega (arith, lt))) in
      rw (low 0 x (omega arith) (omega arith)) (ap suc rest.0, shifted i x xs rest.1)
    where
      shifted : (i : ℕ) (x : X) (xs : List X) → ((k : ℕ) → k < i → slice_get (filter p xs) k ≡ slice_get xs k) → (k : ℕ) → k < suc i → slice_get (x ∷ filter p xs) k ≡ slice_get (x ∷ xs) k
      shifted i x xs rest zero lt = refl
      shifted i x xs rest (suc k) lt = rest k (omega (arith, lt))

tests_turn : (a b : ℕ) → nat_lt a b ≡ true → nat_le b a ≡ false
tests_turn a b e = grind (arith, e)

tests_turn_back : (a b : ℕ) → nat_lt a b ≡ false → nat_le b a ≡ true
tests_turn_back a b e = grind (arith, e)

pub from_position : (stands : List Stand) (position first : ℕ) → AllWithin (λ stand. nat_lt stand.position position ≡ true) stands 0 first → AllWithin (λ stand. nat_lt stand.position position ≡ false) stands first (length stands)
    → slice_get stands first ≡ first_in StartToStop (filter (λ stand. nat_le position stand.position) stands)
from_position stands position first low high =
    sym (first_behind (λ stand. nat_le position stand.position) stands first
    (λ k d ge lt. tests_turn (slice_index_or stands k d).position position (low k d ge lt))
    (λ k d ge lt. tests_turn_back (slice_index_or stands k d).position position (high k d ge lt)))

pub to_position : (stands : List Stand) (position count : ℕ) → count ≤ length stands → 0 < count → AllWithin (λ stand. nat_le stand.position position ≡ true) stands 0 count → AllWithin (λ stand. nat_le stand.position position ≡ false) stands count (length stands)
    → slice_get stands (count - 1) ≡ first_in StopToStart (filter (λ stand. nat_le stand.position position) stands)
to_position stands position count le some low high =
    let front = front_pass (λ stand. nat_le stand.position position) stands count le low high in
    rw front.0 (sym (front.1 (count - 1) (omega (arith, some))))

pub none_to_position : (stands : List Stand) (position : ℕ) → AllWithin (λ stand. nat_le stand.position position ≡ false) stands 0 (length stands)
    → None ≡ first_in StopToStart (filter (λ stand. nat_le stand.position position) stands)
none_to_position stands position high = let none = none_pass (λ (stand : Stand). nat_le stand.position position) stands high in rw none refl

pub member_at : {X : Type 0} (xs : List X) (k : ℕ) (x : X) → slice_get xs k ≡ Some x → Contains xs x
member_at xs k x e = (k, slice_get_within xs k x e, get_or_from_slice_get xs k x x e)

pub number_below : (all : List Placed) (track : ℕ) (row : List Stand) (stand : Stand) → AreStands all track row → Contains row stand → stand.number < length all
number_below all track row stand is member = let it = (is.each stand).0 member in slice_get_within all stand.number it.1.placed it.1.is

pub point_below : (direction : Direction) (number count : ℕ) → number < count → point_of direction number < 2 * count
point_below StartToStop number count lt = omega (arith, lt)
point_below StopToStart number count lt = omega (arith, lt)
