-- A route that goes from the end at which it enters a track to the other end passes all that stands on the track.
use Rattle.std.proofs.Common.{◌≡◌, ◌∙◌, ℕ, zero, suc, ◌+◌, ◌-◌, ◌<◌, ◌≤◌, ◌⊎◌, Bool, true, false, cond, List, [], ◌∷◌, length, Option, Some, None, refl, sym, ap, subst, inl, inr, arith}
use Rattle.std.proofs.lemmas.Bool.{cases_lt, ne_eqb}
use Rattle.std.proofs.lemmas.List.Elements.{All-nil, All-cons, Contains-append_right}
use Rattle.std.specs.Prelude.{slice_get}
use Rattle.std.specs.List.{All, Contains, cons_option, filter_map}
use Rattle.rail_types.specs.declared.infra_types.ends.Direction.{Direction}
use Rattle.rail_types.specs.declared.infra_types.ends.Direction.TheVariants.{StartToStop, StopToStart}
use Rattle.rail_types.specs.declared.infra_types.ends.End.{End}
use Rattle.rail_types.specs.declared.infra_types.ends.End.TheVariants as ends
use Rattle.rail_types.specs.declared.infra_types.ends.TrackEnd.{TrackEnd}
use Rattle.rail_types.specs.declared.infra_types.infras.Infra.{Infra}
use Rattle.rail_types.specs.declared.infra_types.switches.Way.{Way}
use Rattle.track_graph.specs.declared.stands.Stand.{Stand}
use Rattle.track_graph.specs.Layouts.{Layout}
use Rattle.track_graph.specs.Pieces.{length_of}
use Rattle.track_graph.specs.Stands.{stands_of}
use Rattle.route_walk.specs.declared.places.Place.{Place}
use Rattle.route_walk.specs.declared.places.Point.{Point}
use Rattle.route_walk.specs.declared.places.Point.TheVariants.{Detector}
use Rattle.route_walk.specs.declared.places.Spot.{Spot}
use Rattle.route_walk.specs.Courses.{Follows, detectors_of}
use Rattle.route_walk.specs.Passages.{detector_of}
use Rattle.route_walk.specs.Places.{ahead_in, at_detector, at_wall, away_from, begin_of, come, come_to, gap_at, gap_behind, position_of, stands_first, wall_at}
use Rattle.route_walk.specs.Ways.{Comes, ComesFrom, end_of}
use Rattle.route_walk.proofs.Coming.{one_ahead}
use Rattle.route_walk.proofs.Groups.{got_none, got_within}
use Rattle.route_walk.proofs.Leading.{got_same}

-- what a route comes to from a spot is on the same track in the same direction: the next detector, or what is behind all
pub record IsAlong (row : List Stand) (spot : Spot) (place : Place) : Type 0 where
  pub track : place.spot.track ≡ spot.track
  pub direction : place.spot.direction ≡ spot.direction
  pub stop : place.spot.stop ≡ spot.stop
  pub gap : (place.spot.gap ≡ spot.gap)
      ⊎ ((stand : Stand) × (ahead_in spot.direction row spot.gap ≡ Some stand)
      × (place.point ≡ Some (Detector stand.number)) × (place.spot.gap ≡ gap_behind spot.direction spot.gap))
  pub bare : place.point ≡ None → (spot.stop ≡ None) × (ahead_in spot.direction row spot.gap ≡ None)

first_if_free : (direction : Direction) (length_m at : ℕ) → stands_first direction length_m None at ≡ true
first_if_free StartToStop length_m at = refl
first_if_free StopToStart length_m at = refl

module _ (row : List Stand) (spot : Spot) where
  wall_along : (length_m : ℕ) (s : Option ℕ) → spot.stop ≡ s → (s ≡ None → ahead_in spot.direction row spot.gap ≡ None) → IsAlong row spot (wall_at spot length_m s)
  wall_along length_m None e none = record { track = refl; direction = refl; stop = refl; gap = inl refl; bare = λ h. (e, none refl) }
  wall_along length_m (Some stop) e none = record { track = refl; direction = refl; stop = refl; gap = inl refl; bare = λ h. absurd (cc) }

  first_along : (length_m : ℕ) (detector : Stand) (b : Bool) → ahead_in spot.direction row spot.gap ≡ Some detector → stands_first spot.direction length_m spot.stop detector.position ≡ b → IsAlong row spot (cond b (at_detector spot detector) (at_wall spot length_m))
  first_along length_m detector true ahead first = record { track = refl; direction = refl; stop = refl; gap = inr (detector, ahead, refl, refl); bare = λ h. absurd (cc) }
  first_along length_m detector false ahead first = wall_along length_m spot.stop refl (λ none.
      let both : false ≡ true = sym first ∙ ap (λ (s : Option ℕ). stands_first spot.direction length_m s detector.position) none ∙ first_if_free spot.direction length_m detector.position in
      absurd (cc))

  to_along : (length_m : ℕ) (o : Option Stand) → ahead_in spot.direction row spot.gap ≡ o → IsAlong row spot (come_to spot length_m o)
  to_along length_m None ahead = wall_along length_m spot.stop refl (λ h. ahead)
  to_along length_m (Some detector) ahead = first_along length_m detector (stands_first spot.direction length_m spot.stop detector.position) ahead refl

pub come_along : (infra : Infra) (layout : Layout) (spot : Spot) → IsAlong (stands_of layout.stands spot.track) spot (come infra layout spot)
come_along infra layout spot = to_along (stands_of layout.stands spot.track) spot (length_of infra.tracks spot.track) (ahead_in spot.direction (stands_of layout.stands spot.track) spot.gap) refl

-- the detector of that index is behind the gap
abbrev IsPast : Direction → ℕ → ℕ → Type 0
IsPast StartToStop gap k = k < gap
IsPast StopToStart gap k = gap ≤ k

abbrev first_gap : Direction → List Stand → ℕ
first_gap StartToStop row = 0
first_gap StopToStart row = length row

-- none is ahead
abbrev IsAtEnd : Direction → List Stand → ℕ → Type 0
IsAtEnd StartToStop row gap = length row ≤ gap
IsAtEnd StopToStart row gap = gap ≡ 0

one_behind : (row : List Stand) (gap : ℕ) → ahead_in StopToStart row (suc gap) ≡ slice_get row (suc gap - 1)
one_behind row gap = ap (λ (b : Bool). cond b None (slice_get row (suc gap - 1))) (ne_eqb (suc gap) 0 (λ h. omega arith))

past_on : (direction : Direction) (row : List Stand) (gap : ℕ) (stand : Stand) (k : ℕ) (s : Stand) → ahead_in direction row gap ≡ Some stand → slice_get row k ≡ Some s → IsPast direction (gap_behind direction gap) k → (IsPast direction gap k) ⊎ (s ≡ stand)
past_on StartToStop row gap stand k s ahead got past = elim (cases_lt k gap) [
  | inl less ↦ inl less
  | inr more ↦ (let less : k < gap + 1 = past in inr (got_same row row k gap s stand refl (omega arith) got ahead))
]
past_on StopToStart row zero stand k s ahead got past = absurd (cc)
past_on StopToStart row (suc gap) stand k s ahead got past = elim (cases_lt k (suc gap)) [
  | inl less ↦ (let more : suc gap - 1 ≤ k = past in inr (got_same row row k (suc gap - 1) s stand refl (omega arith) got (sym (one_behind row gap) ∙ ahead)))
  | inr more ↦ inl more
]

at_end : (direction : Direction) (row : List Stand) (gap : ℕ) → ahead_in direction row gap ≡ None → gap ≤ length row → IsAtEnd direction row gap
at_end StartToStop row gap e h = got_none row gap e
at_end StopToStart row zero e h = refl
at_end StopToStart row (suc gap) e h = absurd (let none = got_none row (suc gap - 1) (sym (one_behind row gap) ∙ e) in omega arith)

past_all : (direction : Direction) (row : List Stand) (gap k : ℕ) (stand : Stand) → IsAtEnd direction row gap → slice_get row k ≡ Some stand → IsPast direction gap k
past_all StartToStop row gap k stand end got = (let within = (got_within row k stand got).0 in let all : length row ≤ gap = end in omega arith)
past_all StopToStart row gap k stand end got = (let none : gap ≡ 0 = end in omega arith)

no_position : (o : Option Stand) → position_of o ≡ None → o ≡ None
no_position None e = refl
no_position (Some stand) e = absurd (cc)

none_stand : (direction : Direction) (row : List Stand) → ahead_in direction row (first_gap direction row) ≡ None → length row ≡ 0
none_stand StartToStop row e = (let none = got_none row 0 e in omega arith)
none_stand StopToStart row e = at_end StopToStart row (length row) e (omega arith)

pub more_contains : (o : Option ℕ) (ds : List ℕ) (d : ℕ) → Contains ds d → Contains (cons_option o ds) d
more_contains None ds d h = h
more_contains (Some e) ds d h = Contains-append_right (e ∷ []) ds d h

pub first_contains : (o : Option Point) (ds : List ℕ) (d : ℕ) → o ≡ Some (Detector d) → Contains (cons_option (detector_of o) ds) d
first_contains o ds d e = subst (λ (p : Option Point). Contains (cons_option (detector_of p) ds) d) (sym e) (0, omega arith, refl)

-- the end of a track at which a route is where no point stands
abbrev pub head_by : Option Point → Spot → Option TrackEnd
head_by None spot = Some (end_of spot)
head_by (Some point) spot = None

-- the ends of tracks to which a route comes
abbrev pub heads_of : List Place → List TrackEnd
heads_of places = filter_map (λ p. head_by p.point p.spot) places

module _ (passed : List ℕ) (layout : Layout) where
  -- on a track that was entered at its end all detectors behind have been passed, and the buffer stop ahead is the first
  record IsFull (track : ℕ) (direction : Direction) (gap : ℕ) (stop : Option ℕ) : Type 0 where
    count : gap ≤ length (stands_of layout.stands track)
    past : (k : ℕ) (stand : Stand) → slice_get (stands_of layout.stands track) k ≡ Some stand → IsPast direction gap k → Contains passed stand.number
    wall : stop ≡ position_of (ahead_in direction (stands_of layout.stops track) (first_gap direction (stands_of layout.stops track)))

  -- all detectors of a track have been passed, and it has no buffer stop
  pub record IsSwept (track : ℕ) : Type 0 where
    pub stands : (k : ℕ) (stand : Stand) → slice_get (stands_of layout.stands track) k ≡ Some stand → Contains passed stand.number
    pub stops : length (stands_of layout.stops track) ≡ 0

  abbrev FullAt : Spot → Type 0
  FullAt spot = IsFull spot.track spot.direction spot.gap spot.stop

  begin_by : (track : ℕ) (side : End) → IsFull track (away_from side) (gap_at side (stands_of layout.stands track)) (position_of (ahead_in (away_from side) (stands_of layout.stops track) (gap_at side (stands_of layout.stops track))))
  begin_by track ends.Begin = record { count = omega arith; past = λ k stand got h. absurd (let less : k < 0 = h in omega arith); wall = refl }
  begin_by track ends.End = record {
    count = omega arith;
    past = λ k stand got h.
        let within = (got_within (stands_of layout.stands track) k stand got).0 in
        let more : length (stands_of layout.stands track) ≤ k = h in
        absurd (omega arith);
    wall = refl;
  }

  begin_full : (infra : Infra) (end : TrackEnd) → FullAt (begin_of infra layout end)
  begin_full infra end = begin_by end.track end.end

  moved : (track track' : ℕ) (direction direction' : Direction) (gap : ℕ) (stop stop' : Option ℕ) → track' ≡ track → direction' ≡ direction → stop' ≡ stop → IsFull track direction gap stop → IsFull track' direction' gap stop'
  moved track track' direction direction' gap stop stop' t d s full =
      subst (λ (x : ℕ). IsFull x direction' gap stop') (sym t)
      (subst (λ (x : Direction). IsFull track x gap stop') (sym d)
      (subst (λ (x : Option ℕ). IsFull track direction gap x) (sym s) full))

  full_on : (spot : Spot) (place : Place) → FullAt spot → IsAlong (stands_of layout.stands spot.track) spot place → ((d : ℕ) → place.point ≡ Some (Detector d) → Contains passed d) → FullAt place.spot
  full_on spot place full along has = moved spot.track place.spot.track spot.direction place.spot.direction place.spot.gap spot.stop place.spot.stop along.track along.direction along.stop (elim along.gap [
    | inl same ↦ subst (λ (g : ℕ). IsFull spot.track spot.direction g spot.stop) (sym same) full
    | inr (stand, ahead, point, more) ↦ subst (λ (g : ℕ). IsFull spot.track spot.direction g spot.stop) (sym more) (record {
      count = (one_ahead spot.direction (stands_of layout.stands spot.track) spot.gap stand ahead full.count).0;
      past = λ k s got h. elim (past_on spot.direction (stands_of layout.stands spot.track) spot.gap stand k s ahead got h) [
        | inl before ↦ full.past k s got before
        | inr same ↦ subst (λ (x : Stand). Contains passed x.number) (sym same) (has stand.number point)
      ];
      wall = full.wall;
    })
  ])

  swept_at : (spot : Spot) (place : Place) → FullAt spot → IsAlong (stands_of layout.stands spot.track) spot place → place.point ≡ None → IsSwept place.spot.track
  swept_at spot place full along e =
      let bare = along.bare e in
      let end = at_end spot.direction (stands_of layout.stands spot.track) spot.gap bare.1 full.count in
      subst (λ (track : ℕ). IsSwept track) (sym along.track) (record {
        stands = λ k stand got. full.past k stand got (past_all spot.direction (stands_of layout.stands spot.track) spot.gap k stand end got);
        stops = none_stand spot.direction (stands_of layout.stops spot.track) (no_position _ (sym full.wall ∙ bare.0));
      })

  head_swept : (o : Option Point) (spot : Spot) (hs : List TrackEnd) → (o ≡ None → IsSwept spot.track) → All (λ (e : TrackEnd). IsSwept e.track) hs → All (λ (e : TrackEnd). IsSwept e.track) (cons_option (head_by o spot) hs)
  head_swept None spot hs here rest = All-cons (λ (e : TrackEnd). IsSwept e.track) (end_of spot) hs (here refl) rest
  head_swept (Some point) spot hs here rest = rest

  head_behind : (o : Option Point) (spot : Spot) (hs rest : List TrackEnd) (h : TrackEnd) → (o ≡ None → All (λ (e : TrackEnd). IsSwept e.track) hs) → (hs ≡ h ∷ rest → All (λ (e : TrackEnd). IsSwept e.track) rest) → cons_option (head_by o spot) hs ≡ h ∷ rest → All (λ (e : TrackEnd). IsSwept e.track) rest
  head_behind None spot hs rest h all later e = (let same : hs ≡ rest = (cc) in subst (All (λ (e : TrackEnd). IsSwept e.track)) same (all refl))
  head_behind (Some point) spot hs rest h all later e = later e

  -- at the end of a track all is well, and at a point the track has been passed up to there
  abbrev IsGood : Option Point → Spot → Type 0
  IsGood None spot = Unit {0}
  IsGood (Some point) spot = FullAt spot

  good_of : (o : Option Point) (spot : Spot) → FullAt spot → IsGood o spot
  good_of None spot full = tt
  good_of (Some point) spot full = full

  module _ (infra : Infra) (ways : List Way) where
    arrives : (point : Option Point) (spot : Spot) (q : Place) → IsGood point spot → ComesFrom point infra layout ways spot q → ((d : ℕ) → q.point ≡ Some (Detector d) → Contains passed d) → FullAt q.spot × (q.point ≡ None → IsSwept q.spot.track)
    arrives None spot q good (end, to, is) has =
        let from = begin_of infra layout end in
        let along = subst (IsAlong (stands_of layout.stands from.track) from) (sym is) (come_along infra layout from) in
        (full_on from q (begin_full infra end) along has, swept_at from q (begin_full infra end) along)
    arrives (Some point) spot q good is has =
        let along = subst (IsAlong (stands_of layout.stands spot.track) spot) (sym is) (come_along infra layout spot) in
        (full_on spot q good along has, swept_at spot q good along)

    sweep : (p : Place) (ps : List Place) → IsGood p.point p.spot → Follows (Comes infra layout ways) p ps → ((d : ℕ) → Contains (detectors_of ps) d → Contains passed d) → All (λ (e : TrackEnd). IsSwept e.track) (heads_of ps)
    sweep p [] good f has = All-nil (λ (e : TrackEnd). IsSwept e.track)
    sweep p (q ∷ ps) good f has =
        let at = arrives p.point p.spot q good f.0 (λ d e. has d (first_contains q.point (detectors_of ps) d e)) in
        head_swept q.point q.spot (heads_of ps) at.1 (sweep q ps (good_of q.point q.spot at.0) f.1 (λ d h. has d (more_contains (detector_of q.point) (detectors_of ps) d h)))

    -- but for the first, the tracks at whose ends a route comes have been passed from end to end
    pub swept_behind : (p : Place) (ps : List Place) → Follows (Comes infra layout ways) p ps → ((d : ℕ) → Contains (detectors_of ps) d → Contains passed d) → (h : TrackEnd) (hs : List TrackEnd) → heads_of ps ≡ h ∷ hs → All (λ (e : TrackEnd). IsSwept e.track) hs
    swept_behind p [] f has h hs e = absurd (cc)
    swept_behind p (q ∷ ps) f has h hs e =
        let rest = λ (d : ℕ) (k : Contains (detectors_of ps) d). has d (more_contains (detector_of q.point) (detectors_of ps) d k) in
        head_behind q.point q.spot (heads_of ps) hs h
        (λ bare. sweep q ps (subst (λ (o : Option Point). IsGood o q.spot) (sym bare) tt) f.1 rest)
        (λ same. swept_behind q ps f.1 rest h hs same) e
