-- What lies along the tracks is on them and within its limits.
use Rattle.std.proofs.Common.{ℕ, ◌+◌, ◌<◌, ◌≤◌, List, [], ◌∷◌, length, Option, Some, None, IfSome, arith}
use Rattle.std.specs.List.{All}
use Rattle.std.proofs.lemmas.List.{length-map}
use Rattle.std.proofs.lemmas.List.Elements.{All-nil, All-append, All-head, All-tail, All-map}
use Rattle.signal_blocks.specs.declared.block_cuts.lines.SpeedRange.{SpeedRange}
use Rattle.signal_blocks.specs.declared.block_cuts.lines.StopPart.{StopPart}
use Rattle.rail_types.specs.declared.infra_types.infras.Infra.{Infra}
use Rattle.rail_types.specs.declared.infra_types.tracks.OperationalPoint.{OperationalPoint}
use Rattle.rail_types.specs.declared.infra_types.tracks.Part.{Part}
use Rattle.rail_types.specs.declared.infra_types.tracks.Range.{Range}
use Rattle.rail_types.specs.declared.infra_types.tracks.SpeedSection.{SpeedSection}
use Rattle.rail_types.specs.declared.infra_types.tracks.Track.{Track}
use Rattle.rail_types.specs.Infras.{IsInfra, IsPoint, IsRange, IsSpeed, lengths_of}
use Rattle.rail_types.specs.declared.limits.TheConstants.{MAX_SPEED_MM_S}
use Rattle.signal_blocks.specs.Lines.{limited, parts_from, parts_of, speed_ranges, stop_parts}

-- of one of so many tracks, with a limit
abbrev IsKept : ℕ → SpeedRange → Type 0
IsKept count range = (range.range.track < count) × (1 ≤ range.limit)

limited_kept : (lengths : List ℕ) (limit : Option ℕ) (ranges : List Range) → IfSome limit (λ limit. (1 ≤ limit) × (limit ≤ MAX_SPEED_MM_S)) → All (IsRange lengths) ranges → All (IsKept (length lengths)) (limited limit ranges)
limited_kept lengths None ranges is all = All-nil (IsKept (length lengths))
limited_kept lengths (Some limit) ranges is all = All-map (IsKept (length lengths)) (λ (range : Range). record { range = range; limit = limit }) ranges (λ k d lt. ((all k d lt).track, is.0))

ranges_kept : (lengths : List ℕ) (sections : List SpeedSection) → All (IsSpeed lengths) sections → All (IsKept (length lengths)) (speed_ranges sections)
ranges_kept lengths [] all = All-nil (IsKept (length lengths))
ranges_kept lengths (section ∷ sections) all =
    let here : IsSpeed lengths section = All-head (IsSpeed lengths) section sections all in
    All-append (IsKept (length lengths)) (limited section.limit section.ranges) (speed_ranges sections)
    (limited_kept lengths section.limit section.ranges here.limit here.ranges)
    (ranges_kept lengths sections (All-tail (IsSpeed lengths) section sections all))

pub ranges_on_tracks : (infra : Infra) → IsInfra infra → All (λ range. range.range.track < length infra.tracks) (speed_ranges infra.speeds)
ranges_on_tracks infra is k d lt =
    let kept = ranges_kept (lengths_of infra.tracks) infra.speeds is.speeds k d lt in
    let long = length-map infra.tracks (λ (track : Track). track.length) in
    let on = kept.0 in
    omega (arith, on, long)

pub ranges_limited : (infra : Infra) → IsInfra infra → All (λ range. 1 ≤ range.limit) (speed_ranges infra.speeds)
ranges_limited infra is k d lt = (ranges_kept (lengths_of infra.tracks) infra.speeds is.speeds k d lt).1

-- of one of so many tracks, and below this number
abbrev IsPart : ℕ → ℕ → StopPart → Type 0
IsPart count stops part = (part.part.track < count) × (part.stop < stops)

parts_kept : (count stops stop : ℕ) (points : List OperationalPoint) → stop + length points ≤ stops → All (IsPoint count) points → All (IsPart count stops) (parts_from stop points)
parts_kept count stops stop [] le all = All-nil (IsPart count stops)
parts_kept count stops stop (point ∷ points) le all =
    let here : IsPoint count point = All-head (IsPoint count) point points all in
    let below : stop < stops = omega (arith, le) in
    All-append (IsPart count stops) (parts_of stop point) (parts_from (stop + 1) points)
    (All-map (IsPart count stops) (λ (part : Part). record { stop = stop; part = part }) point.parts (λ k d lt. (here.parts k d lt, below)))
    (parts_kept count stops (stop + 1) points (omega (arith, le)) (All-tail (IsPoint count) point points all))

pub parts_on_tracks : (infra : Infra) → IsInfra infra → All (λ part. part.part.track < length infra.tracks) (stop_parts infra.points)
parts_on_tracks infra is k d lt = (parts_kept (length infra.tracks) (length infra.points) 0 infra.points (omega arith) is.points k d lt).0

pub parts_numbered : (infra : Infra) → IsInfra infra → All (λ part. part.stop < length infra.points) (stop_parts infra.points)
parts_numbered infra is k d lt = (parts_kept (length infra.tracks) (length infra.points) 0 infra.points (omega arith) is.points k d lt).1
