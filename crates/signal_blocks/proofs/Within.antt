-- Pieces of track are short, and not too many.
use Rattle.std.proofs.Common.{◌≡◌, ℕ, zero, suc, ◌<◌, ◌≤◌, ◌^◌, Bool, true, false, List, [], ◌∷◌, ◌++◌, length, map, take, find, Option, Some, None, option_map, slice_get, slice_index_or, if◌then◌else◌, refl, sym, ap, ◌∙◌, arith, append_assoc, ltb-false}
use Rattle.std.specs.List.{All, sum_by}
use Rattle.std.proofs.Math.Seq.{take-length}
use Rattle.std.proofs.lemmas.List.Elements.{All-nil, All-cons, All-head, All-tail, All-contains_itself}
use Rattle.std.proofs.lemmas.List.Sums.{sum_by-cons}
use Rattle.rail_types.specs.declared.infra_types.infras.Infra.{Infra}
use Rattle.rail_types.specs.declared.infra_types.tracks.Placed.{Placed}
use Rattle.rail_types.specs.declared.infra_types.tracks.Track.{Track}
use Rattle.rail_types.specs.Infras.{IsInfra, IsTrack}
use Rattle.rail_types.specs.declared.limits.TheConstants.{MAX_TRACK_LENGTH_M}
use Rattle.track_graph.specs.declared.pieces.Piece.{Piece}
use Rattle.track_graph.specs.Faults.{Located, all_located, first_off, is_off, placed_at, points_at, signals_at}
use Rattle.track_graph.specs.Layouts.{IsLayoutOf, Layout}
use Rattle.track_graph.specs.Pieces.{length_of, pieces_from, pieces_of}
use Rattle.signal_blocks.specs.Inside.{IsOwn}

no_name : (o : Option Located) → option_map (λ (one : Located). one.id) o ≡ None → o ≡ None
no_name None e = refl
no_name (Some one) e = absurd (cc e)

passed_over : (b : Bool) (one : Located) (rest : Option Located) → (if b then Some one else rest) ≡ None → (b ≡ false) × (rest ≡ None)
passed_over true one rest e = absurd (cc e)
passed_over false one rest e = (refl, e)

on_track : (tracks : List Track) (placed : List Placed) (rest : List Located) (k : ℕ) (one : Placed) → find (is_off tracks) (map placed_at placed ++ rest) ≡ None → slice_get placed k ≡ Some one → one.position ≤ length_of tracks one.track
on_track tracks [] rest k one none e = absurd (cc e)
on_track tracks (first ∷ placed) rest zero one none e =
    let same : first ≡ one = cc e in
    let here = passed_over (is_off tracks (placed_at first)) (placed_at first) (find (is_off tracks) (map placed_at placed ++ rest)) none in
    let within : first.position ≤ length_of tracks first.track = ltb-false _ _ here.0 in
    rw (← same) within
on_track tracks (first ∷ placed) rest (suc k) one none e =
    let here = passed_over (is_off tracks (placed_at first)) (placed_at first) (find (is_off tracks) (map placed_at placed ++ rest)) none in
    on_track tracks placed rest k one here.1 e

detectors_on_tracks : (infra : Infra) (k : ℕ) (one : Placed) → first_off infra ≡ None → slice_get infra.detectors k ≡ Some one → one.position ≤ length_of infra.tracks one.track
detectors_on_tracks infra k one none e =
    let front = map placed_at infra.detectors in
    let middle = map placed_at infra.buffer_stops in
    let back = signals_at infra.signals ++ points_at infra.points in
    let found : find (is_off infra.tracks) ((front ++ middle) ++ back) ≡ None = no_name (find (is_off infra.tracks) (all_located infra)) none in
    let apart : find (is_off infra.tracks) (front ++ (middle ++ back)) ≡ None = ap (find (is_off infra.tracks)) (sym (append_assoc front middle back)) ∙ found in
    on_track infra.tracks infra.detectors (middle ++ back) k one apart e

track_within : (tracks : List Track) (k : ℕ) → All IsTrack tracks → length_of tracks k ≤ MAX_TRACK_LENGTH_M
track_within [] k all = omega arith
track_within (track ∷ tracks) zero all = (All-head IsTrack track tracks all).1
track_within (track ∷ tracks) (suc k) all = track_within tracks k (All-tail IsTrack track tracks all)

pieces_within : (count track begin : ℕ) (cuts : List ℕ) (length_m : ℕ) → track < count → begin ≤ MAX_TRACK_LENGTH_M → All (λ cut. cut ≤ MAX_TRACK_LENGTH_M) cuts → length_m ≤ MAX_TRACK_LENGTH_M → All (IsOwn count) (pieces_from track begin cuts length_m)
pieces_within count track begin [] length_m lt from all to =
    All-cons (IsOwn count) (record { track = track; begin = begin; end = length_m }) [] ((omega (arith, from), omega (arith, to)), lt) (All-nil (IsOwn count))
pieces_within count track begin (cut ∷ cuts) length_m lt from all to =
    let here : cut ≤ MAX_TRACK_LENGTH_M = All-head (λ cut. cut ≤ MAX_TRACK_LENGTH_M) cut cuts all in
    All-cons (IsOwn count) (record { track = track; begin = begin; end = cut }) (pieces_from track cut cuts length_m) ((omega (arith, from), omega (arith, here)), lt)
    (pieces_within count track cut cuts length_m lt here (All-tail (λ cut. cut ≤ MAX_TRACK_LENGTH_M) cut cuts all) to)

pub pieces_own : (infra : Infra) (layout : Layout) → IsInfra infra → IsLayoutOf infra layout → (track : ℕ) → track < length layout.infra.tracks → All (IsOwn (length layout.infra.tracks)) (pieces_of layout.pieces track)
pieces_own infra layout is of track lt =
    let same = of.is in
    let stands = of.sound.stands.each track lt in
    let pieces = of.sound.pieces.each track lt in
    let tracks : All IsTrack layout.infra.tracks = rw same is.tracks in
    let long = track_within layout.infra.tracks track tracks in
    let cuts : All (λ cut. cut ≤ MAX_TRACK_LENGTH_M) pieces.0 = λ k d below.
    (let cut = (pieces.1.each (slice_index_or pieces.0 k d)).0 (All-contains_itself pieces.0 k d below) in
    let stand = (stands.each cut.0).0 cut.1 in
    let placed = detectors_on_tracks layout.infra cut.0.number stand.1.placed of.sound.within stand.1.is in
    let whole : length_of layout.infra.tracks stand.1.placed.track ≤ MAX_TRACK_LENGTH_M = track_within layout.infra.tracks stand.1.placed.track tracks in
    let there = stand.1.position in
    let here = cut.2 in
    omega (arith, placed, whole, there, here)) in
    rw pieces.2 (pieces_within (length layout.infra.tracks) track 0 pieces.0 (length_of layout.infra.tracks track) lt (omega arith) cuts long)

row_within : (rows : List (List Piece)) (k : ℕ) → length (pieces_of rows k) ≤ sum_by length rows
row_within [] k = omega arith
row_within (row ∷ rows) zero = let all = sum_by-cons {X = List Piece} length row rows in omega (arith, all)
row_within (row ∷ rows) (suc k) = let all = sum_by-cons {X = List Piece} length row rows in let rest = row_within rows k in omega (arith, all, rest)

pub few_pieces : (infra : Infra) (layout : Layout) → IsInfra infra → IsLayoutOf infra layout → (track : ℕ) → length (pieces_of layout.pieces track) < 2 ^ 32
few_pieces infra layout is of track =
    let same = of.is in
    let row = row_within layout.pieces track in
    let many = of.sound.pieces.many in
    let long = of.sound.stands.long in
    let all : take (length layout.infra.tracks) layout.stands ≡ layout.stands = ap (λ n. take n layout.stands) (sym long) ∙ take-length layout.stands in
    let stands : sum_by length (take (length layout.infra.tracks) layout.stands) ≡ length layout.infra.detectors = ap (sum_by length) all ∙ of.sound.stands.many in
    let detectors : length layout.infra.detectors ≤ 65536 = rw same is.counts.detectors in
    let tracks : length layout.infra.tracks ≤ 65536 = rw same is.counts.tracks in
    omega (arith, row, many, stands, detectors, tracks)
