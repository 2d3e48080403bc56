-- A route that goes on comes to no end of a track twice, so it is short.
use Rattle.std.proofs.Common.{◌≡◌, ◌≢◌, ◌∙◌, ℕ, zero, suc, ◌+◌, ◌*◌, ◌<◌, ◌≤◌, List, [], ◌∷◌, length, get_or, map, Option, Some, None, refl, sym, ap, subst, arith}
use Rattle.std.proofs.lemmas.Bool.{eqb-true}
use Rattle.std.proofs.lemmas.Bool.Decides.{Decides-eqb}
use Rattle.std.proofs.lemmas.List.{length-map}
use Rattle.std.proofs.lemmas.List.Elements.{All-nil, All-cons, All-contains, Contains-get_or}
use Rattle.std.proofs.lemmas.List.Kept.{AllPairs-cons}
use Rattle.std.proofs.lemmas.Map.Made.{IsDistinct-from_AllPairs}
use Rattle.std.proofs.lemmas.Map.Steps.{length-le_from_distinct_below}
use Rattle.std.proofs.lemmas.Map.Views.{Contains-from_any}
use Rattle.std.proofs.lemmas.Option.{slice_get_read}
use Rattle.std.specs.Prelude.{slice_get}
use Rattle.std.specs.List.{All, AllPairs, Contains, cons_option}
use Rattle.rail_types.specs.Infras.{IsInfra, IsRoutePoint}
use Rattle.rail_types.specs.declared.infra_types.ends.Direction.{Direction}
use Rattle.rail_types.specs.declared.infra_types.ends.Direction.TheVariants.{StartToStop, StopToStart}
use Rattle.rail_types.specs.declared.infra_types.ends.End.{End}
use Rattle.rail_types.specs.declared.infra_types.ends.End.TheVariants as ends
use Rattle.rail_types.specs.declared.infra_types.ends.TrackEnd.{TrackEnd}
use Rattle.rail_types.specs.declared.infra_types.infras.Infra.{Infra}
use Rattle.rail_types.specs.declared.infra_types.routes.RoutePoint.{RoutePoint}
use Rattle.rail_types.specs.declared.infra_types.routes.RoutePoint.TheVariants as bounds
use Rattle.rail_types.specs.declared.infra_types.switches.Switch.{Switch}
use Rattle.rail_types.specs.declared.infra_types.switches.Way.{Way}
use Rattle.track_graph.specs.declared.stands.Stand.{Stand}
use Rattle.track_graph.specs.Layouts.{IsLayoutOf, Layout}
use Rattle.track_graph.specs.Faults.{AreOnce}
use Rattle.track_graph.specs.Stands.{AreStands, stands_of}
use Rattle.route_walk.specs.declared.places.Place.{Place}
use Rattle.route_walk.specs.declared.places.Point.{Point}
use Rattle.route_walk.specs.declared.places.Point.TheVariants.{Detector, Stop}
use Rattle.route_walk.specs.declared.places.Spot.{Spot}
use Rattle.route_walk.specs.Courses.{Follows, IsOpen, NoneTwice, detectors_of}
use Rattle.route_walk.specs.Entries.{entry_at, metre_at, track_at}
use Rattle.route_walk.specs.Passages.{GoesOn, detector_of}
use Rattle.route_walk.specs.Places.{IsKnown, IsPlace, away_from, begin_of, come}
use Rattle.route_walk.specs.Ways.{Comes, ComesFrom, Leads, end_of, end_towards}
use Rattle.route_walk.proofs.Leading.{leads_from_one}
use Rattle.route_walk.proofs.Starts.{in_row, stand_at, track_in}
use Rattle.route_walk.proofs.Sweeps.{IsSwept, come_along, head_by, heads_of, swept_behind}

-- the other end of the track
abbrev other_side : End → End
other_side ends.Begin = ends.End
other_side ends.End = ends.Begin

abbrev opposite : TrackEnd → TrackEnd
opposite end = record { track = end.track; end = other_side end.end }

side_back : (side : End) → other_side (other_side side) ≡ side
side_back ends.Begin = refl
side_back ends.End = refl

side_away : (side : End) → end_towards (away_from side) ≡ other_side side
side_away ends.Begin = refl
side_away ends.End = refl

abbrev end_at : ℕ → End → TrackEnd
end_at track side = record { track = track; end = side }

opposite_back : (end : TrackEnd) → opposite (opposite end) ≡ end
opposite_back end = ap (end_at end.track) (side_back end.end)

same_opposite : (one other : TrackEnd) → opposite one ≡ opposite other → one ≡ other
same_opposite one other e = sym (opposite_back one) ∙ ap opposite e ∙ opposite_back other

same_end : (place spot : Spot) → place.track ≡ spot.track → place.direction ≡ spot.direction → end_of place ≡ end_of spot
same_end place spot t d = ap (λ (track : ℕ). end_at track (end_towards place.direction)) t ∙ ap (λ (direction : Direction). end_at spot.track (end_towards direction)) d

module _ (switches : List Switch) (own : List Way) where
  -- the way from the one end leads to the track at whose end a route comes next
  abbrev IsNextEnd : TrackEnd → TrackEnd → Type 0
  IsNextEnd one other = (end : TrackEnd) × Leads switches own one end × (other ≡ opposite end)

  -- from an end, each next end follows
  abbrev AreRun : TrackEnd → List TrackEnd → Type 0
  AreRun end [] = Unit {0}
  AreRun end (h ∷ hs) = IsNextEnd end h × AreRun h hs

  -- the same, where the end itself comes first
  abbrev AreRunOf : TrackEnd → List TrackEnd → Type 0
  AreRunOf end [] = Unit {0}
  AreRunOf end (h ∷ hs) = (h ≡ end) × AreRun h hs

  abbrev AreAhead : Option Point → Spot → List TrackEnd → Type 0
  AreAhead None spot hs = AreRun (end_of spot) hs
  AreAhead (Some point) spot hs = AreRunOf (end_of spot) hs

  abbrev IsOnward : Option Point → Spot → Spot → Type 0
  IsOnward None spot next = IsNextEnd (end_of spot) (end_of next)
  IsOnward (Some point) spot next = end_of next ≡ end_of spot

  none_ahead : (o : Option Point) (spot : Spot) → AreAhead o spot []
  none_ahead None spot = tt
  none_ahead (Some point) spot = tt

  from_next : (end next : TrackEnd) (hs : List TrackEnd) → IsNextEnd end next → AreRunOf next hs → AreRun end hs
  from_next end next [] on run = tt
  from_next end next (h ∷ hs) on run = (subst (λ (x : TrackEnd). IsNextEnd end x) (sym run.0) on, run.1)

  link : (o o' : Option Point) (spot next : Spot) (hs : List TrackEnd) → IsOnward o spot next → AreAhead o' next hs → AreAhead o spot (cons_option (head_by o' next) hs)
  link None None spot next hs on run = (on, run)
  link None (Some point) spot next hs on run = from_next (end_of spot) (end_of next) hs on run
  link (Some point) None spot next hs on run = (on, run)
  link (Some point) (Some other) spot next hs on run = subst (λ (x : TrackEnd). AreRunOf x hs) on run

  run_at : (end : TrackEnd) (hs : List TrackEnd) → AreRun end hs → (i : ℕ) (d : TrackEnd) → i < length hs → IsNextEnd (get_or (end ∷ hs) i d) (get_or hs i d)
  run_at end [] run i d h = absurd (omega arith)
  run_at end (h ∷ hs) run zero d less = run.0
  run_at end (h ∷ hs) run (suc i) d less = run_at h hs run.1 i d (omega arith)

  from_one : (one other end : TrackEnd) → AreOnce switches → IsNextEnd one end → IsNextEnd other end → one ≡ other
  from_one one other end once (a, to, is) (b, to', is') =
      leads_from_one switches own once one other b (subst (Leads switches own one) (same_opposite a b (sym is ∙ is')) to) to'

  run_apart : (end : TrackEnd) (hs : List TrackEnd) → AreOnce switches → AreRun end hs → (Contains hs end → ⊥) → AllPairs (λ a b. a ≢ b) (end ∷ hs)
  run_apart end hs once run fresh i zero d less h e = omega arith
  run_apart end hs once run fresh zero (suc j) d less h e = fresh (subst (Contains hs) (sym e) (Contains-get_or hs j d (omega arith)))
  run_apart end hs once run fresh (suc i) (suc j) d less h e =
      run_apart end hs once run fresh i j d (omega arith) (omega arith) (from_one (get_or (end ∷ hs) i d) (get_or (end ∷ hs) j d) (get_or hs j d) once
      (subst (IsNextEnd (get_or (end ∷ hs) i d)) e (run_at end hs run i d (omega arith))) (run_at end hs run j d (omega arith)))

module _ (infra : Infra) (layout : Layout) (own : List Way) where
  onward_by : (point : Option Point) (spot : Spot) (q : Place) → ComesFrom point infra layout own spot q → IsOnward layout.infra.switches own point spot q.spot
  onward_by None spot q (end, to, is) =
      let from = begin_of infra layout end in
      let along = come_along infra layout from in
      let at = subst (λ (p : Place). (p.spot.track ≡ from.track) × (p.spot.direction ≡ from.direction)) (sym is) (along.track, along.direction) in
      (end, to, same_end q.spot from at.0 at.1 ∙ ap (end_at end.track) (side_away end.end))
  onward_by (Some point) spot q is =
      let along = come_along infra layout spot in
      let at = subst (λ (p : Place). (p.spot.track ≡ spot.track) × (p.spot.direction ≡ spot.direction)) (sym is) (along.track, along.direction) in
      same_end q.spot spot at.0 at.1

  ahead_run : (p : Place) (ps : List Place) → Follows (Comes infra layout own) p ps → AreAhead layout.infra.switches own p.point p.spot (heads_of ps)
  ahead_run p [] f = none_ahead layout.infra.switches own p.point p.spot
  ahead_run p (q ∷ ps) f = link layout.infra.switches own p.point q.point p.spot q.spot (heads_of ps) (onward_by p.point p.spot q f.0) (ahead_run q ps f.1)

first_again : (d : ℕ) (ds : List ℕ) → NoneTwice (d ∷ ds) → Contains ds d → ⊥
first_again d ds once (k, within, e) = once 0 (suc k) d (omega arith) (omega arith) (sym e)

none_twice_behind : (o : Option ℕ) (ds : List ℕ) → NoneTwice (cons_option o ds) → NoneTwice ds
none_twice_behind None ds once = once
none_twice_behind (Some d) ds once = λ i j e less h. once (suc i) (suc j) e (omega arith) (omega arith)

-- the track at which a route begins is not passed from end to end
module _ (infra : Infra) (layout : Layout) (direction : Direction) (is : IsInfra infra) (lay : IsLayoutOf infra layout) where
  rows_there : (track : ℕ) → track < length infra.tracks → AreStands infra.detectors track (stands_of layout.stands track) × AreStands infra.buffer_stops track (stands_of layout.stops track)
  rows_there track within = subst (λ (i : Infra). track < length i.tracks → AreStands i.detectors track (stands_of layout.stands track) × AreStands i.buffer_stops track (stands_of layout.stops track)) lay.is
      (λ h. (lay.sound.stands.each track h, lay.sound.stops.each track h)) within

  not_swept : (entry exit : RoutePoint) (places : List Place) → IsRoutePoint (length infra.detectors) (length infra.buffer_stops) entry
      → NoneTwice (detectors_of (entry_at infra layout direction entry exit ∷ places)) → IsSwept (detectors_of places) layout (entry_at infra layout direction entry exit).spot.track → ⊥
  not_swept (bounds.Detector number) exit places known once swept =
      let track = track_at infra.detectors number in
      let row = stands_of layout.stands track in
      let there = in_row infra.detectors number row known (rows_there track (track_in (length infra.tracks) infra.detectors number is.detectors known)).0 in
      let stand = stand_at infra.detectors number in
      first_again number (detectors_of places) once (swept.stands there.0 stand (slice_get_read row (length row) there.0 stand refl there.1 (sym there.2)))
  not_swept (bounds.BufferStop number) exit places known once swept =
      let track = track_at infra.buffer_stops number in
      let row = stands_of layout.stops track in
      let there = in_row infra.buffer_stops number row known (rows_there track (track_in (length infra.tracks) infra.buffer_stops number is.buffer_stops known)).1 in
      let within : there.0 < length row = there.1 in
      let none = swept.stops in
      absurd (omega arith)

  some_point : (entry exit : RoutePoint) → (point : Point) × ((entry_at infra layout direction entry exit).point ≡ Some point)
  some_point (bounds.Detector number) exit = (Detector number, refl)
  some_point (bounds.BufferStop number) exit = (Stop (track_at infra.buffer_stops number) (metre_at infra.buffer_stops number), refl)

-- the number of an end among all ends
abbrev side_number : End → ℕ
side_number ends.Begin = 0
side_number ends.End = 1

abbrev end_number : TrackEnd → ℕ
end_number end = 2 * end.track + side_number end.end

side_one : (one other : End) → side_number one ≡ side_number other → one ≡ other
side_one ends.Begin ends.Begin e = refl
side_one ends.Begin ends.End e = absurd (omega arith)
side_one ends.End ends.Begin e = absurd (omega arith)
side_one ends.End ends.End e = refl

side_low : (side : End) → side_number side ≤ 1
side_low ends.Begin = omega arith
side_low ends.End = omega arith

number_one : (one other : TrackEnd) → end_number one ≡ end_number other → one ≡ other
number_one one other e =
    let low = side_low one.end in
    let low' = side_low other.end in
    let track : one.track ≡ other.track = omega arith in
    let side : side_number one.end ≡ side_number other.end = omega arith in
    ap (λ (t : ℕ). end_at t one.end) track ∙ ap (end_at other.track) (side_one one.end other.end side)

numbers_other : (one : TrackEnd) (hs : List TrackEnd) → All (λ (h : TrackEnd). one ≢ h) hs → All (λ (n : ℕ). end_number one ≢ n) (map end_number hs)
numbers_other one [] all = All-nil (λ (n : ℕ). end_number one ≢ n)
numbers_other one (h ∷ hs) all = All-cons (λ (n : ℕ). end_number one ≢ n) (end_number h) (map end_number hs) (λ e. all 0 one (omega arith) (number_one one h e)) (numbers_other one hs (λ k d w. all (suc k) d (omega arith)))

numbers_apart : (hs : List TrackEnd) → AllPairs (λ a b. a ≢ b) hs → AllPairs (λ (a b : ℕ). a ≢ b) (map end_number hs)
numbers_apart [] apart = λ i j d less h e. omega arith
numbers_apart (one ∷ hs) apart = AllPairs-cons (λ (a b : ℕ). a ≢ b) (end_number one) (map end_number hs)
    (numbers_other one hs (λ k d w. apart 0 (suc k) d (omega arith) (omega arith)))
    (numbers_apart hs (λ i j d less w. apart (suc i) (suc j) d (omega arith) (omega arith)))

numbers_below : (count : ℕ) (hs : List TrackEnd) → All (λ (h : TrackEnd). h.track < count) hs → All (λ (n : ℕ). n < 2 * count) (map end_number hs)
numbers_below count [] all = All-nil (λ (n : ℕ). n < 2 * count)
numbers_below count (h ∷ hs) all = All-cons (λ (n : ℕ). n < 2 * count) (end_number h) (map end_number hs)
    (let less = all 0 h (omega arith) in let low = side_low h.end in omega arith) (numbers_below count hs (λ k d w. all (suc k) d (omega arith)))

-- different numbers below a bound are no more than it
few_below : (count : ℕ) (ns : List ℕ) → AllPairs (λ a b. a ≢ b) ns → All (λ n. n < count) ns → length ns ≤ count
few_below count ns apart below = length-le_from_distinct_below ns count (IsDistinct-from_AllPairs Decides-eqb ns apart)
    (λ q h. All-contains (λ n. n < count) ns q below (Contains-from_any eqb-true q ns h))

known_below : (count : ℕ) (o : Option Point) (ds : List ℕ) → IsKnown count o → All (λ d. d < count) ds → All (λ d. d < count) (cons_option (detector_of o) ds)
known_below count None ds known all = all
known_below count (Some (Detector d)) ds known all = All-cons (λ n. n < count) d ds known all
known_below count (Some (Stop track at)) ds known all = all

head_below : (count : ℕ) (o : Option Point) (spot : Spot) (hs : List TrackEnd) → spot.track < count → All (λ (h : TrackEnd). h.track < count) hs → All (λ (h : TrackEnd). h.track < count) (cons_option (head_by o spot) hs)
head_below count None spot hs on all = All-cons (λ (h : TrackEnd). h.track < count) (end_of spot) hs on all
head_below count (Some point) spot hs on all = all

module _ (infra : Infra) (layout : Layout) where
  detectors_below : (ps : List Place) → All (IsPlace infra layout) ps → All (λ d. d < length infra.detectors) (detectors_of ps)
  detectors_below [] all = All-nil (λ d. d < length infra.detectors)
  detectors_below (p ∷ ps) all = known_below (length infra.detectors) p.point (detectors_of ps) (all 0 p (omega arith)).known (detectors_below ps (λ k d w. all (suc k) d (omega arith)))

  heads_below : (ps : List Place) → All (IsPlace infra layout) ps → All (λ (h : TrackEnd). h.track < length infra.tracks) (heads_of ps)
  heads_below [] all = All-nil (λ (h : TrackEnd). h.track < length infra.tracks)
  heads_below (p ∷ ps) all = head_below (length infra.tracks) p.point p.spot (heads_of ps) (all 0 p (omega arith)).on.track (heads_below ps (λ k d w. all (suc k) d (omega arith)))

-- a place where a route goes on is a detector, or the end of a track
one_part : (exit : Point) (o : Option Point) (spot : Spot) (ds : List ℕ) (hs : List TrackEnd) (n : ℕ) → GoesOn o exit → n ≡ length ds + length hs → suc n ≡ length (cons_option (detector_of o) ds) + length (cons_option (head_by o spot) hs)
one_part exit None spot ds hs n goes e = omega arith
one_part exit (Some (Detector d)) spot ds hs n goes e = omega arith
one_part exit (Some (Stop track at)) spot ds hs n goes e = absurd goes

two_parts : (exit : Point) (ps : List Place) → All (λ p. GoesOn p.point exit) ps → length ps ≡ length (detectors_of ps) + length (heads_of ps)
two_parts exit [] goes = refl
two_parts exit (p ∷ ps) goes = one_part exit p.point p.spot (detectors_of ps) (heads_of ps) (length ps) (goes 0 p (omega arith)) (two_parts exit ps (λ k d w. goes (suc k) d (omega arith)))

module _ (infra : Infra) (layout : Layout) (own : List Way) (direction : Direction) (begun over : RoutePoint) (exit : Point) (is : IsInfra infra) (lay : IsLayoutOf infra layout)
    (known : IsRoutePoint (length infra.detectors) (length infra.buffer_stops) begun) where
  abbrev entry : Place
  entry = entry_at infra layout direction begun over

  apart_by : (ps : List Place) → IsOpen (Comes infra layout own) entry exit ps → (hs : List TrackEnd) → heads_of ps ≡ hs → AreRunOf layout.infra.switches own (end_of entry.spot) hs → AllPairs (λ a b. a ≢ b) hs
  apart_by ps runs [] same run = λ i j d less h e. omega arith
  apart_by ps runs (h ∷ hs) same run = run_apart layout.infra.switches own h hs lay.sound.once run.1 (λ again.
      let swept = All-contains (λ (e : TrackEnd). IsSwept (detectors_of ps) layout e.track) hs h (swept_behind (detectors_of ps) layout infra own entry ps runs.follows (λ d k. k) h hs same) again in
      not_swept infra layout direction is lay begun over ps known runs.once (subst (λ (e : TrackEnd). IsSwept (detectors_of ps) layout e.track) run.0 swept))

  heads_apart : (ps : List Place) → IsOpen (Comes infra layout own) entry exit ps → AllPairs (λ a b. a ≢ b) (heads_of ps)
  heads_apart ps runs =
      let at = some_point infra layout direction is lay begun over in
      apart_by ps runs (heads_of ps) refl (subst (λ (o : Option Point). AreAhead layout.infra.switches own o entry.spot (heads_of ps)) at.1 (ahead_run infra layout own entry ps runs.follows))

  -- no route goes on for more places than there are detectors and ends of tracks
  pub open_short : (ps : List Place) → IsOpen (Comes infra layout own) entry exit ps → All (IsPlace infra layout) ps → length ps ≤ length infra.detectors + 2 * length infra.tracks
  open_short ps runs on =
      let parts = two_parts exit ps runs.goes_on in
      let one = few_below (length infra.detectors) (detectors_of ps) (none_twice_behind (detector_of entry.point) (detectors_of ps) runs.once) (detectors_below infra layout ps on) in
      let other = few_below (2 * length infra.tracks) (map end_number (heads_of ps)) (numbers_apart (heads_of ps) (heads_apart ps runs)) (numbers_below (length infra.tracks) (heads_of ps) (heads_below infra layout ps on)) in
      let long = length-map (heads_of ps) end_number in
      omega arith
