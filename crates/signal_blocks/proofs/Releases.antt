-- The release point of a cell lies at or after the cell's end, inside the block.
use Rattle.std.proofs.Common.{◌≡◌, ℕ, zero, suc, ◌+◌, ◌<◌, ◌≤◌, min, Bool, true, false, cond, List, [], ◌∷◌, length, Option, Some, None, slice_get, nat_le, nat_lt, refl, sym, ap, ◌∙◌, arith, leb-true, le-leb, ltb-true, ltb-false}
use Rattle.std.specs.List.{AllWithin}
use Rattle.signal_blocks.specs.Cells.{from_end, release_of, or_number}
use Rattle.signal_blocks.specs.Cuts.{metres_at, nowhere}
use Rattle.route_walk.specs.Sound.{IsWalk}
use Rattle.route_walk.specs.declared.walks.Walk.{Walk}

-- the first number that is not less than the end, where the lesser ones stand before it
pub first_at : (end : ℕ) (xs : List ℕ) (i : ℕ) → AllWithin (λ x. nat_lt x end ≡ true) xs 0 i → AllWithin (λ x. nat_lt x end ≡ false) xs i (length xs) → slice_get xs i ≡ from_end xs end
first_at end [] i low high = refl
first_at end (x ∷ xs) zero low high =
    let late : end ≤ x = ltb-false _ _ (high 0 x (omega arith) (omega arith)) in
    let found : nat_le end x ≡ true = le-leb _ _ late in
    ap (λ b. cond b (Some x) (from_end xs end)) (sym found)
first_at end (x ∷ xs) (suc i) low high =
    let early : x < end = ltb-true _ _ (low 0 x (omega arith) (omega arith)) in
    let missed : nat_le end x ≡ false = grind (arith, early) in
    first_at end xs i (λ k d ge lt. low (suc k) d (omega arith) (omega (arith, lt))) (λ k d ge lt. high (suc k) d (omega (arith, ge)) (omega (arith, lt)))
    ∙ ap (λ b. cond b (Some x) (from_end xs end)) (sym missed)

late_if : (b : Bool) (end x : ℕ) (rest : Option ℕ) → (b ≡ true → end ≤ x) → ((m : ℕ) → rest ≡ Some m → end ≤ m) → (m : ℕ) → cond b (Some x) rest ≡ Some m → end ≤ m
late_if true end x rest here there m e = let same : x ≡ m = cc e in omega (arith, here refl, same)
late_if false end x rest here there m e = there m e

pub found_late : (end : ℕ) (xs : List ℕ) (m : ℕ) → from_end xs end ≡ Some m → end ≤ m
found_late end [] m e = cc e
found_late end (x ∷ xs) m e = late_if (nat_le end x) end x (from_end xs end) (λ t. leb-true _ _ t) (found_late end xs) m e

late_of : (end last : ℕ) (found : Option ℕ) → ((m : ℕ) → found ≡ Some m → end ≤ m) → end ≤ last → end ≤ min last (or_number last found)
late_of end last None late inside = omega (arith, inside)
late_of end last (Some m) late inside = omega (arith, inside, late m refl)

pub release_late : (walk : Walk) (from place to : ℕ) → IsWalk walk → from ≤ place → place < to → to < length walk.passed → metres_at walk.passed from ≤ release_of walk.releases (metres_at walk.passed (place + 1)) (metres_at walk.passed to)
release_late walk from place to is low high end =
    let before : metres_at walk.passed from ≤ metres_at walk.passed (place + 1) = is.onward from (place + 1) nowhere (omega (arith, low)) (omega (arith, high, end)) in
    let behind : metres_at walk.passed (place + 1) ≤ metres_at walk.passed to = is.onward (place + 1) to nowhere (omega (arith, high)) end in
    let late = late_of (metres_at walk.passed (place + 1)) (metres_at walk.passed to) (from_end walk.releases (metres_at walk.passed (place + 1))) (found_late _ walk.releases) behind in
    omega (arith, before, late)

pub release_within : (releases : List ℕ) (end last : ℕ) → release_of releases end last ≤ last
release_within releases end last = omega arith

-- a release point lies between the places that were passed
pub ruleset release_between = (release_late, release_within)
