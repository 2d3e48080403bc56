-- The cells of a block stand in order and within it.
use Rattle.std.proofs.Common.{◌≡◌, ℕ, zero, suc, ◌+◌, ◌-◌, ◌<◌, ◌≤◌, min, Bool, true, false, List, [], ◌∷◌, map, length, Option, Some, None, option_map, slice_index_or, nat_le, refl, sym, ap, arith, le-leb, cond}
use Rattle.std.specs.List.{filter_map, range_with_len, list_all, cons_option}
use Rattle.rail_types.specs.declared.tracks.Cell.{Cell}
use Rattle.rail_types.specs.Flaws.{neighbours, ascends}
use Rattle.signal_blocks.specs.Cells.{cell_at, cells_between, from_end, release_of, release_from, or_number}
use Rattle.signal_blocks.specs.Cuts.{metres_at, nowhere}
use Rattle.route_walk.specs.Sound.{IsWalk}
use Rattle.route_walk.specs.declared.walks.Walk.{Walk}
use Rattle.signal_blocks.proofs.Releases.{found_late, release_within}
use Rattle.std.proofs.lemmas.Bool.{leb-false}

-- no number is less than the one before it, the first not less than the least, none over the most
abbrev pub Rise : ℕ → ℕ → List ℕ → Type 0
Rise least most [] = Unit {0}
Rise least most (x ∷ xs) = (least ≤ x) × (x ≤ most) × Rise x most xs

in_neighbours : (least most : ℕ) (xs : List ℕ) → Rise least most xs → list_all (λ pair. nat_le pair.0 pair.1) (neighbours xs) ≡ true
in_neighbours least most [] rise = refl
in_neighbours least most (x ∷ []) rise = refl
in_neighbours least most (x ∷ y ∷ ys) (low, high, (next, below, rest)) = rw (le-leb x y next) (in_neighbours x most (y ∷ ys) (next, below, rest))

all_within : (least most : ℕ) (xs : List ℕ) → Rise least most xs → list_all (λ number. nat_le number most) xs ≡ true
all_within least most [] rise = refl
all_within least most (x ∷ xs) (low, high, rest) = rw (le-leb x most high) (all_within x most xs rest)

pub ascends_if : (least most : ℕ) (xs : List ℕ) → Rise least most xs → ascends most xs ≡ true
ascends_if least most xs rise = rw (in_neighbours least most xs rise, all_within least most xs rise) refl

rise_step : (least most release : ℕ) (cells : List Cell) (here : Option Cell) → ((cell : Cell) → here ≡ Some cell → cell.release_m ≡ release) → least ≤ release → release ≤ most
    → Rise least most (map (λ cell. cell.release_m) cells) → Rise release most (map (λ cell. cell.release_m) cells)
    → Rise least most (map (λ cell. cell.release_m) (cons_option here cells))
rise_step least most release cells None at low high rest behind = rest
rise_step least most release cells (Some cell) at low high rest behind =
    let same : cell.release_m ≡ release = at cell refl in
    rw same (low, high, behind)

-- what comes of a range rises where what comes of its numbers does
rise_of : (h : ℕ → Option Cell) (r : ℕ → ℕ) (least most a n : ℕ)
    → ((k : ℕ) (cell : Cell) → h k ≡ Some cell → cell.release_m ≡ r k)
    → ((j k : ℕ) → a ≤ j → j ≤ k → k < a + n → r j ≤ r k)
    → ((k : ℕ) → a ≤ k → k < a + n → least ≤ r k)
    → ((k : ℕ) → r k ≤ most)
    → Rise least most (map (λ cell. cell.release_m) (filter_map h (range_with_len a n)))
rise_of h r least most a zero at up low high = tt
rise_of h r least most a (suc n) at up low high =
    rise_step least most (r a) (filter_map h (range_with_len (a + 1) n)) (h a) (at a) (low a (omega arith) (omega arith)) (high a)
    (rise_of h r least most (a + 1) n at (λ j k ge le lt. up j k (omega (arith, ge)) le (omega (arith, lt))) (λ k ge lt. low k (omega (arith, ge)) (omega (arith, lt))) high)
    (rise_of h r (r a) most (a + 1) n at (λ j k ge le lt. up j k (omega (arith, ge)) le (omega (arith, lt))) (λ k ge lt. up a k (omega arith) (omega (arith, ge)) (omega (arith, lt))) high)

first_if : (last end later x : ℕ) (early late : Bool) (one other : Option ℕ) → (early ≡ false → late ≡ false) → (late ≡ false → (m : ℕ) → other ≡ Some m → x ≤ m) → min last (or_number last one) ≤ min last (or_number last other)
    → min last (or_number last (cond early (Some x) one)) ≤ min last (or_number last (cond late (Some x) other))
first_if last end later x true true one other up above rest = omega arith
first_if last end later x true false one None up above rest = omega arith
first_if last end later x true false one (Some m) up above rest = let more = above refl m refl in omega (arith, more)
first_if last end later x false true one other up above rest = absurd (cc (up refl))
first_if last end later x false false one other up above rest = rest

-- a later end is released no earlier
pub release_rises : (releases : List ℕ) (end later last : ℕ) → end ≤ later → release_of releases end last ≤ release_of releases later last
release_rises [] end later last le = omega arith
release_rises (x ∷ xs) end later last le = first_if last end later x (nat_le end x) (nat_le later x) (from_end xs end) (from_end xs later)
    (λ early. grind (arith, leb-false end x early))
    (λ late m found. let behind = found_late later xs m found in let before = leb-false later x late in omega (arith, behind, before))
    (release_rises xs end later last le)

told : (walk : Walk) (from to place : ℕ) (zone : Option ℕ) (cell : Cell) → option_map (λ zone. record { zone = zone; release_m = release_from walk from to place }) zone ≡ Some cell → cell.release_m ≡ release_from walk from to place
told walk from to place None cell e = absurd (cc e)
told walk from to place (Some zone) cell e =
    let same : record { zone = zone; release_m = release_from walk from to place } ≡ cell = cc e in
    sym (ap (λ cell. cell.release_m) same)

pub cells_ascend : (walk : Walk) (from to : ℕ) → IsWalk walk → from < to → to < length walk.passed → ascends (metres_at walk.passed to - metres_at walk.passed from) (map (λ cell. cell.release_m) (cells_between walk from to)) ≡ true
cells_ascend walk from to is order end =
    ascends_if 0 (metres_at walk.passed to - metres_at walk.passed from) _
    (rise_of (cell_at walk from to) (release_from walk from to) 0 (metres_at walk.passed to - metres_at walk.passed from) from (to - from)
    (λ k cell e. told walk from to k (slice_index_or walk.zones k None) cell e)
    (λ j k ge le lt.
    let onward : metres_at walk.passed (j + 1) ≤ metres_at walk.passed (k + 1) = is.onward (j + 1) (k + 1) nowhere (omega (arith, le)) (omega (arith, lt, order, end)) in
    let rises = release_rises walk.releases (metres_at walk.passed (j + 1)) (metres_at walk.passed (k + 1)) (metres_at walk.passed to) onward in
    omega (arith, rises))
    (λ k ge lt. omega arith)
    (λ k. let within = release_within walk.releases (metres_at walk.passed (k + 1)) (metres_at walk.passed to) in omega (arith, within)))
