-- Served points ascend and stay below a number; speeds stay in their range.
use Rattle.std.proofs.Common.{◌≡◌, ℕ, suc, ◌+◌, ◌<◌, ◌≤◌, min, true, List, [], ◌∷◌, slice_index_or, nat_lt, refl, arith, lt-ltb}
use Rattle.std.specs.List.{All, filter, fold, list_all}
use Rattle.std.specs.List.Sorted.{IsStrictlyIncreasing}
use Rattle.std.proofs.lemmas.List.Elements.{All-nil, All-head, All-tail, All-map, All-filter, All-append, All-contains, All-contains_itself}
use Rattle.rail_types.specs.Flaws.{neighbours, climbs}
use Rattle.rail_types.specs.declared.limits.TheConstants.{MAX_SPEED_MM_S}
use Rattle.signal_blocks.specs.Served.{AreServed, stops_on, stops_in, lies_on}
use Rattle.signal_blocks.specs.Speeds.{least_limit, limits_in, limits_on, holds_on}
use Rattle.signal_blocks.specs.declared.block_cuts.lines.StopPart.{StopPart}
use Rattle.signal_blocks.specs.declared.block_cuts.lines.SpeedRange.{SpeedRange}
use Rattle.route_walk.specs.declared.walks.Stretch.{Stretch}

behind : (x : ℕ) (xs : List ℕ) → IsStrictlyIncreasing (x ∷ xs) → IsStrictlyIncreasing xs
behind x xs up k lt =
    let on : suc k + 1 ≡ suc (k + 1) = omega arith in
    let h = up (suc k) (omega (arith, lt)) in
    rw on at h

rising : (xs : List ℕ) → IsStrictlyIncreasing xs → list_all (λ pair. nat_lt pair.0 pair.1) (neighbours xs) ≡ true
rising [] up = refl
rising (x ∷ []) up = refl
rising (x ∷ y ∷ ys) up = rw (lt-ltb x y (up 0 (omega arith))) (rising (y ∷ ys) (behind x (y ∷ ys) up))

below : (end : ℕ) (xs : List ℕ) → All (λ x. x < end) xs → list_all (λ x. nat_lt x end) xs ≡ true
below end [] all = refl
below end (x ∷ xs) all = rw (lt-ltb x end (All-head (λ x. x < end) x xs all)) (below end xs (All-tail (λ x. x < end) x xs all))

stops_below : (end : ℕ) (parts : List StopPart) (stretches : List Stretch) → All (λ part. part.stop < end) parts → All (λ stop. stop < end) (stops_on parts stretches)
stops_below end parts [] all = All-nil (λ stop. stop < end)
stops_below end parts (stretch ∷ stretches) all =
    All-append (λ stop. stop < end) (stops_in parts stretch) (stops_on parts stretches)
    (All-map (λ stop. stop < end) (λ part. part.stop) (filter (lies_on stretch) parts) (All-filter (lies_on stretch) (λ part. part.stop < end) parts all))
    (stops_below end parts stretches all)

pub serves_climb : (parts : List StopPart) (stretches : List Stretch) (stops : List ℕ) (end : ℕ) → AreServed parts stretches stops → All (λ part. part.stop < end) parts → climbs end stops ≡ true
serves_climb parts stretches stops end is all =
    let each : All (λ stop. stop < end) stops = λ k d lt. All-contains (λ stop. stop < end) (stops_on parts stretches) (slice_index_or stops k d) (stops_below end parts stretches all) ((is.each (slice_index_or stops k d)).0 (All-contains_itself stops k d lt)) in
    rw (rising stops is.rises, below end stops each) refl

least_low : (low start : ℕ) (xs : List ℕ) → low ≤ start → All (λ x. low ≤ x) xs → low ≤ fold min start xs
least_low low start [] le all = le
least_low low start (x ∷ xs) le all =
    let here = All-head (λ x. low ≤ x) x xs all in
    let both : low ≤ min start x = omega (arith, le, here) in
    least_low low (min start x) xs both (All-tail (λ x. low ≤ x) x xs all)

least_high : (high start : ℕ) (xs : List ℕ) → start ≤ high → fold min start xs ≤ high
least_high high start [] le = le
least_high high start (x ∷ xs) le =
    let both : min start x ≤ high = omega (arith, le) in
    least_high high (min start x) xs both

limits_above : (low : ℕ) (ranges : List SpeedRange) (stretches : List Stretch) → All (λ range. low ≤ range.limit) ranges → All (λ limit. low ≤ limit) (limits_on ranges stretches)
limits_above low ranges [] all = All-nil (λ limit. low ≤ limit)
limits_above low ranges (stretch ∷ stretches) all =
    All-append (λ limit. low ≤ limit) (limits_in ranges stretch) (limits_on ranges stretches)
    (All-map (λ limit. low ≤ limit) (λ range. range.limit) (filter (holds_on stretch) ranges) (All-filter (holds_on stretch) (λ range. low ≤ range.limit) ranges all))
    (limits_above low ranges stretches all)

pub speed_within : (ranges : List SpeedRange) (stretches : List Stretch) → All (λ range. 1 ≤ range.limit) ranges → (1 ≤ least_limit ranges stretches) × (least_limit ranges stretches ≤ MAX_SPEED_MM_S)
speed_within ranges stretches all = (least_low 1 MAX_SPEED_MM_S (limits_on ranges stretches) (omega arith) (limits_above 1 ranges stretches all), least_high MAX_SPEED_MM_S MAX_SPEED_MM_S (limits_on ranges stretches) (omega arith))
