-- Where a route begins stands on a track.
use Rattle.std.proofs.Common.{◌≡◌, ◌∙◌, ℕ, zero, suc, ◌-◌, ◌<◌, ◌≤◌, Bool, true, false, cond, List, [], ◌∷◌, length, get_or, nat_eq, nat_lt, Option, Some, None, refl, sym, ap, subst, arith}
use Rattle.std.proofs.lemmas.Bool.{ne_eqb, eq-eqb, le-ltb}
use Rattle.std.proofs.lemmas.List.Sums.{count_by-le-length}
use Rattle.std.specs.Prelude.{slice_get, IfSome}
use Rattle.std.specs.List.{All, Contains, count_by}
use Rattle.rail_types.specs.Infras.{IsInfra, IsPlaced, IsTrack}
use Rattle.rail_types.specs.declared.infra_types.ends.Direction.{Direction}
use Rattle.rail_types.specs.declared.infra_types.ends.Direction.TheVariants.{StartToStop, StopToStart}
use Rattle.rail_types.specs.declared.infra_types.infras.Infra.{Infra}
use Rattle.rail_types.specs.declared.infra_types.routes.RoutePoint.{RoutePoint}
use Rattle.rail_types.specs.declared.infra_types.tracks.Placed.{Placed}
use Rattle.rail_types.specs.declared.infra_types.tracks.Track.{Track}
use Rattle.track_graph.specs.declared.stands.Stand.{Stand}
use Rattle.track_graph.specs.Layouts.{Layout}
use Rattle.track_graph.specs.Pieces.{AreOn, length_of}
use Rattle.track_graph.specs.Stands.{AreStands, Stands, stands_of}
use Rattle.route_walk.specs.Counts.{rank_of, stands_before}
use Rattle.route_walk.specs.Entries.{detector_spot, gap_past, is_beside, metre_at, metre_of, side_of_stop, stop_spot, track_at, track_of}
use Rattle.route_walk.specs.Places.{IsSpot, ahead_in, position_of}
use Rattle.route_walk.proofs.Groups.{got_within}
use Rattle.route_walk.proofs.Parted.{one_counts}

pub track_in : (count : ℕ) (all : List Placed) (number : ℕ) → All (IsPlaced count) all → number < length all → track_at all number < count
track_in count [] number are within = absurd (omega arith)
track_in count (p ∷ ps) zero are within = are 0 p (omega arith)
track_in count (p ∷ ps) (suc n) are within = track_in count ps n (λ k d h. are (suc k) d (omega arith)) (omega arith)

some_at : (all : List Placed) (number : ℕ) → number < length all → (p : Placed) × (slice_get all number ≡ Some p)
some_at [] number within = absurd (omega arith)
some_at (p ∷ ps) zero within = (p, refl)
some_at (p ∷ ps) (suc n) within = some_at ps n (omega arith)

abbrev pub stand_at : List Placed → ℕ → Stand
stand_at all number = record { track = track_at all number; position = metre_at all number; number = number }

stands_there : (all : List Placed) (number : ℕ) → number < length all → Stands all (stand_at all number)
stands_there all number within =
    let it = some_at all number within in
    record { placed = it.0; is = it.1; track = ap track_of (sym it.1); position = ap metre_of (sym it.1) }

pub in_row : (all : List Placed) (number : ℕ) (row : List Stand) → number < length all → AreStands all (track_at all number) row → Contains row (stand_at all number)
in_row all number row within are = (are.each (stand_at all number)).1 (refl, stands_there all number within)

pub metre_on : (tracks : List Track) (all : List Placed) (number : ℕ) (row : List Stand) → number < length all → AreStands all (track_at all number) row → AreOn tracks (track_at all number) row → metre_at all number ≤ length_of tracks (track_at all number)
metre_on tracks all number row within are on =
    let there = in_row all number row within are in
    subst (λ (s : Stand). s.position ≤ length_of tracks (track_at all number)) there.2 (on there.0 (stand_at all number) there.1)

at_most_one : (b : Bool) → cond b 1 0 ≤ 1
at_most_one true = omega arith
at_most_one false = omega arith

count_less : {X : Type 0} (p : X → Bool) (xs : List X) (k : ℕ) (x : X) → k < length xs → get_or xs k x ≡ x → p x ≡ false → count_by p xs < length xs
count_less {X} p [] k x h e f = absurd (omega arith)
count_less {X} p (y ∷ ys) zero x h e f = (let one = one_counts p y ys false (ap p e ∙ f) in let most = count_by-le-length p ys in omega arith)
count_less {X} p (y ∷ ys) (suc k) x h e f = (let one = one_counts p y ys (p y) refl in let rest = count_less p ys k x (omega arith) e f in let most = at_most_one (p y) in omega arith)

not_before_itself : (at number : ℕ) (track : ℕ) → stands_before at number (record { track = track; position = at; number = number }) ≡ false
not_before_itself at number track =
    ap (λ (b : Bool). cond b true (cond (nat_eq at at) (nat_lt number number) false)) (le-ltb at at (omega arith))
    ∙ (ap (λ (b : Bool). cond b (nat_lt number number) false) (eq-eqb at at refl) ∙ le-ltb number number (omega arith))

rank_in : (all : List Placed) (number : ℕ) (row : List Stand) → number < length all → AreStands all (track_at all number) row → rank_of (metre_at all number) number row < length row
rank_in all number row within are =
    let there = in_row all number row within are in
    count_less (stands_before (metre_at all number) number) row there.0 (stand_at all number) there.1 there.2 (not_before_itself (metre_at all number) number (track_at all number))

past_in : (direction : Direction) (rank count : ℕ) → rank < count → gap_past direction rank ≤ count
past_in StartToStop rank count h = omega arith
past_in StopToStart rank count h = omega arith

found_ahead : (direction : Direction) (row : List Stand) (gap : ℕ) (stand : Stand) → ahead_in direction row gap ≡ Some stand → (i : ℕ) × (slice_get row i ≡ Some stand)
found_ahead StartToStop row gap stand e = (gap, e)
found_ahead StopToStart row zero stand e = absurd (cc)
found_ahead StopToStart row (suc gap) stand e =
    let told : ahead_in StopToStart row (suc gap) ≡ slice_get row (suc gap - 1) = ap (λ (b : Bool). cond b None (slice_get row (suc gap - 1))) (ne_eqb (suc gap) 0 (λ h. omega arith)) in
    (suc gap - 1, sym told ∙ e)

wall_of : (tracks : List Track) (track : ℕ) (row : List Stand) (direction : Direction) (gap : ℕ) (o : Option Stand) → AreOn tracks track row → ahead_in direction row gap ≡ o → IfSome (position_of o) (λ stop. stop ≤ length_of tracks track)
wall_of tracks track row direction gap None on e = tt
wall_of tracks track row direction gap (Some stand) on e =
    let it = found_ahead direction row gap stand e in
    let at = got_within row it.0 stand it.1 in
    subst (λ (s : Stand). s.position ≤ length_of tracks track) (at.1 stand) (on it.0 stand at.0)

pub wall_within : (tracks : List Track) (track : ℕ) (row : List Stand) (direction : Direction) (gap : ℕ) → AreOn tracks track row → IfSome (position_of (ahead_in direction row gap)) (λ stop. stop ≤ length_of tracks track)
wall_within tracks track row direction gap on = wall_of tracks track row direction gap (ahead_in direction row gap) on refl

either_wall : (b : Bool) (at : ℕ) (o : Option ℕ) (most : ℕ) → at ≤ most → IfSome o (λ stop. stop ≤ most) → IfSome (cond b (Some at) o) (λ stop. stop ≤ most)
either_wall true at o most here there = here
either_wall false at o most here there = there

module _ (infra : Infra) (layout : Layout) (direction : Direction) (number : ℕ) where
  pub detector_on : number < length infra.detectors → All (IsPlaced (length infra.tracks)) infra.detectors
      → AreStands infra.detectors (track_at infra.detectors number) (stands_of layout.stands (track_at infra.detectors number))
      → AreOn infra.tracks (track_at infra.detectors number) (stands_of layout.stands (track_at infra.detectors number))
      → AreOn infra.tracks (track_at infra.detectors number) (stands_of layout.stops (track_at infra.detectors number))
      → IsSpot infra layout (detector_spot infra layout direction number)
  detector_on within placed are on stops = record {
    track = track_in (length infra.tracks) infra.detectors number placed within;
    here = metre_on infra.tracks infra.detectors number _ within are on;
    count = past_in direction _ _ (rank_in infra.detectors number _ within are);
    wall = wall_within infra.tracks _ _ direction _ stops;
  }

  pub stop_on : (exit : RoutePoint) → number < length infra.buffer_stops → All (IsPlaced (length infra.tracks)) infra.buffer_stops
      → AreStands infra.buffer_stops (track_at infra.buffer_stops number) (stands_of layout.stops (track_at infra.buffer_stops number))
      → AreOn infra.tracks (track_at infra.buffer_stops number) (stands_of layout.stops (track_at infra.buffer_stops number))
      → IsSpot infra layout (stop_spot infra layout direction number exit)
  stop_on exit within placed are on = record {
    track = track_in (length infra.tracks) infra.buffer_stops number placed within;
    here = metre_on infra.tracks infra.buffer_stops number _ within are on;
    count = count_by-le-length (λ (stand : Stand). nat_lt stand.position (side_of_stop direction (length_of infra.tracks (track_at infra.buffer_stops number)) (metre_at infra.buffer_stops number))) _;
    wall = either_wall (is_beside infra number exit) _ _ _ (metre_on infra.tracks infra.buffer_stops number _ within are on) (wall_within infra.tracks _ _ direction _ on);
  }

pub long_at : (tracks : List Track) (track : ℕ) → All IsTrack tracks → length_of tracks track ≤ 1000000
long_at [] track are = omega arith
long_at (t ∷ ts) zero are = (let most = (are 0 t (omega arith)).1 in omega arith)
long_at (t ∷ ts) (suc n) are = long_at ts n (λ k d h. are (suc k) d (omega arith))

pub metre_short : (infra : Infra) (all : List Placed) (number : ℕ) (rows : ℕ → List Stand) (track : ℕ) → IsInfra infra → number < length all → track_at all number ≡ track → AreStands all track (rows track) → AreOn infra.tracks track (rows track) → metre_at all number ≤ 1000000
metre_short infra all number rows track is within same are on =
    let low = metre_on infra.tracks all number (rows (track_at all number)) within (subst (λ (t : ℕ). AreStands all t (rows t)) (sym same) are) (subst (λ (t : ℕ). AreOn infra.tracks t (rows t)) (sym same) on) in
    let most = long_at infra.tracks (track_at all number) is.tracks in
    omega arith
