-- What holds of a whole walk.
use Rattle.std.proofs.Common.{◌≡◌, ◌∙◌, ℕ, zero, suc, ◌+◌, ◌*◌, ◌/◌, ◌<◌, ◌≤◌, Bool, true, false, cond, nat_eq, nat_lt, List, [], ◌∷◌, length, get_or, map, take, Option, Some, None, refl, sym, ap, subst, inl, inr, arith}
use Rattle.std.proofs.lemmas.Bool.{cases_order, eqb-true}
use Rattle.std.proofs.lemmas.List.{length-map}
use Rattle.std.proofs.lemmas.List.Sums.{sum_by-cons, sum_by-take-le}
use Rattle.std.specs.Prelude.{slice_index_or, IfSome}
use Rattle.std.specs.List.{All, cons_option}
use Rattle.std.specs.List.Sorted.{IsNonDecreasing, IsNonDecreasingBy}
use Rattle.rail_types.specs.Infras.{IsInfra}
use Rattle.rail_types.specs.declared.infra_types.infras.Infra.{Infra}
use Rattle.rail_types.specs.declared.infra_types.routes.Route.{Route}
use Rattle.rail_types.specs.declared.infra_types.switches.Way.{Way}
use Rattle.track_graph.specs.declared.stands.Stand.{Stand}
use Rattle.track_graph.specs.Layouts.{Layout}
use Rattle.track_graph.specs.Pieces.{length_of}
use Rattle.track_graph.specs.Stands.{stands_of}
use Rattle.route_walk.specs.declared.places.Place.{Place}
use Rattle.route_walk.specs.declared.places.Point.{Point}
use Rattle.route_walk.specs.declared.places.Spot.{Spot}
use Rattle.route_walk.specs.declared.walks.Passed.{Passed}
use Rattle.route_walk.specs.declared.walks.Walk.{Walk}
use Rattle.route_walk.specs.declared.courses.Ending.{Ending}
use Rattle.route_walk.specs.Courses.{Ends, Follows, IsThrough, detectors_of}
use Rattle.route_walk.specs.Entries.{entry_of, exit_of}
use Rattle.route_walk.specs.Walks.{stray_of}
use Rattle.route_walk.specs.Legs.{ArePassed, IsBehind, length_m, metres_to, number_at, numbers_at, stretch_of}
use Rattle.route_walk.specs.Places.{IsPlace, ahead_in, at_detector, at_metre, begin_of, come, come_to, wall_at}
use Rattle.route_walk.specs.Releases.{first_stray, has, release_at, releases_at}
use Rattle.route_walk.specs.Sound.{AreSound, IsSound}
use Rattle.route_walk.specs.Ways.{Comes, ComesFrom}
use Rattle.route_walk.proofs.Groups.{got_within}
use Rattle.route_walk.proofs.Runs.{follows_on}
use Rattle.route_walk.proofs.Starts.{long_at}

-- a place behind a spot
record IsAhead (spot : Spot) (place : Place) : Type 0 where
  level : place.level ≡ true → (spot.passed ≡ true) × (place.from ≡ place.spot.at)
  passed : place.spot.passed ≡ true → place.point ≡ None → ⊥

metre_ahead : (spot : Spot) (at : ℕ) (point : Option Point) → IsAhead spot (at_metre spot at point)
metre_ahead spot at point = record { level = λ e. absurd (cc); passed = λ e. absurd (cc) }

wall_ahead : (spot : Spot) (length_m : ℕ) (o : Option ℕ) → IsAhead spot (wall_at spot length_m o)
wall_ahead spot length_m None = metre_ahead spot _ None
wall_ahead spot length_m (Some stop) = metre_ahead spot stop _

both : (a b : Bool) → cond a b false ≡ true → (a ≡ true) × (b ≡ true)
both true b e = (refl, e)
both false b e = absurd (cc)

detector_ahead : (spot : Spot) (detector : Stand) → IsAhead spot (at_detector spot detector)
detector_ahead spot detector = record {
  level = λ e. (let it = both spot.passed (nat_eq detector.position spot.at) e in (it.0, sym (eqb-true detector.position spot.at it.1)));
  passed = λ e h. absurd (cc);
}

either_ahead : (spot : Spot) (b : Bool) (one other : Place) → IsAhead spot one → IsAhead spot other → IsAhead spot (cond b one other)
either_ahead spot true one other h k = h
either_ahead spot false one other h k = k

to_ahead : (spot : Spot) (length_m : ℕ) (o : Option Stand) → IsAhead spot (come_to spot length_m o)
to_ahead spot length_m None = wall_ahead spot length_m spot.stop
to_ahead spot length_m (Some detector) = either_ahead spot _ _ _ (detector_ahead spot detector) (wall_ahead spot length_m spot.stop)

come_ahead : (infra : Infra) (layout : Layout) (spot : Spot) → IsAhead spot (come infra layout spot)
come_ahead infra layout spot = to_ahead spot (length_of infra.tracks spot.track) (ahead_in spot.direction (stands_of layout.stands spot.track) spot.gap)

from_behind : (infra : Infra) (layout : Layout) (ways : List Way) (point : Option Point) (before place : Place) → ComesFrom point infra layout ways before.spot place → IsBehind before place
from_behind infra layout ways (Some p) before place is =
    let ahead = subst (IsAhead before.spot) (sym is) (come_ahead infra layout before.spot) in
    record { level = ahead.level; passed = ahead.passed }
from_behind infra layout ways None before place (end, to, is) =
    let ahead = subst (IsAhead (begin_of infra layout end)) (sym is) (come_ahead infra layout (begin_of infra layout end)) in
    record { level = λ e. absurd (let run = (ahead.level e).0 in cc); passed = ahead.passed }

step_at : (next : Place → Place → Type 0) (a : Place) (ps : List Place) → Follows next a ps → (i : ℕ) (d : Place) → i < length ps → next (get_or (a ∷ ps) i d) (get_or ps i d)
step_at next a [] f i d h = absurd (omega arith)
step_at next a (p ∷ ps) f zero d h = f.0
step_at next a (p ∷ ps) f (suc i) d h = step_at next p ps f.1 i d (omega arith)

pub all_behind : (infra : Infra) (layout : Layout) (ways : List Way) (entry : Place) (exit : Point) (places : List Place) → IsThrough (Comes infra layout ways) entry exit places → (k : ℕ) (d : Place) → k < length places → IsBehind (get_or (entry ∷ places) k d) (get_or places k d)
all_behind infra layout ways entry exit places (last, way, _, _) k d h =
    let follows = subst (Follows (Comes infra layout ways) entry) (sym way.whole) (follows_on (Comes infra layout ways) entry way.before last way.runs.follows way.leads) in
    from_behind infra layout ways (get_or (entry ∷ places) k d).point (get_or (entry ∷ places) k d) (get_or places k d) (step_at (Comes infra layout ways) entry places follows k d h)

pub all_short : (infra : Infra) (layout : Layout) (places : List Place) → IsInfra infra → All (IsPlace infra layout) places → All (λ (place : Place). length_m place ≤ 1000000) places
all_short infra layout places is are k d h =
    let place = are k d h in
    let most = long_at infra.tracks (get_or places k d).spot.track is.tracks in
    let here = place.on.here in
    let begun = place.begun in
    omega arith

less_sum : (places : List Place) (a b : ℕ) → a ≤ b → metres_to places a ≤ metres_to places b
less_sum [] a b less = (let low = sum_by-take-le length_m [] a in omega arith)
less_sum (p ∷ ps) zero b less = omega arith
less_sum (p ∷ ps) (suc a) zero less = absurd (omega arith)
less_sum (p ∷ ps) (suc a) (suc b) less =
    let rest = less_sum ps a b (omega arith) in
    let one = sum_by-cons length_m p (take a ps) in
    let other = sum_by-cons length_m p (take b ps) in
    omega arith

told : (a b : Bool) (x m : ℕ) → ◌≡◌ {A = Option ℕ} (cond a (cond b (Some x) None) None) (Some m) → x ≡ m
told true true x m e = (cc)
told true false x m e = absurd (cc)
told false b x m e = absurd (cc)

release_is : (detectors : ℕ) (releases : List ℕ) (one : Passed) (m : ℕ) → release_at detectors releases one ≡ Some m → one.metres ≡ m
release_is detectors releases one m e = told (nat_lt one.point (2 * detectors)) (has releases (one.point / 2)) one.metres m e

cons_low : (o : Option ℕ) (ms : List ℕ) (low : ℕ) → ((m : ℕ) → o ≡ Some m → low ≤ m) → All (λ m. low ≤ m) ms → All (λ m. low ≤ m) (cons_option o ms)
cons_low None ms low h all k d w = all k d w
cons_low (Some m) ms low h all zero d w = h m refl
cons_low (Some m) ms low h all (suc k) d w = all k d (omega arith)

releases_low : (detectors : ℕ) (releases : List ℕ) (low : ℕ) (passed : List Passed) → ((k : ℕ) (d : Passed) → k < length passed → low ≤ (get_or passed k d).metres) → All (λ m. low ≤ m) (releases_at detectors releases passed)
releases_low detectors releases low [] above k d h = absurd (omega arith)
releases_low detectors releases low (one ∷ rest) above i e w =
    cons_low (release_at detectors releases one) (releases_at detectors releases rest) low
    (λ m e. (let is = release_is detectors releases one m e in let here = above 0 one (omega arith) in omega arith))
    (releases_low detectors releases low rest (λ k d h. above (suc k) d (omega arith))) i e w

cons_rise : (o : Option ℕ) (ms : List ℕ) → ((m : ℕ) → o ≡ Some m → All (λ x. m ≤ x) ms) → IsNonDecreasing ms → IsNonDecreasing (cons_option o ms)
cons_rise None ms low up i j d less within = up i j d less within
cons_rise (Some m) ms low up zero zero d less within = omega arith
cons_rise (Some m) ms low up zero (suc j) d less within = low m refl j d (omega arith)
cons_rise (Some m) ms low up (suc i) zero d less within = absurd (omega arith)
cons_rise (Some m) ms low up (suc i) (suc j) d less within = up i j d (omega arith) (omega arith)

-- the metres of releases do not fall, as those of the points passed do not
releases_rise : (detectors : ℕ) (releases : List ℕ) (passed : List Passed) → IsNonDecreasingBy (λ (one : Passed). one.metres) passed → IsNonDecreasing (releases_at detectors releases passed)
releases_rise detectors releases [] up i j d less within = absurd (omega arith)
releases_rise detectors releases (one ∷ rest) up i j d less within =
    cons_rise (release_at detectors releases one) (releases_at detectors releases rest)
    (λ m e. subst (λ (x : ℕ). All (λ y. x ≤ y) (releases_at detectors releases rest)) (release_is detectors releases one m e) (releases_low detectors releases one.metres rest (λ k d h. up 0 (suc k) d (omega arith) (omega arith))))
    (releases_rise detectors releases rest (λ i' j' d' less' within'. up (suc i') (suc j') d' (omega arith) (omega arith))) i j d less within

zone_below : (count : ℕ) (zones : List (Option ℕ)) → All (λ zone. IfSome zone (λ number. number < count)) zones → (n zone : ℕ) → slice_index_or zones n None ≡ Some zone → zone < count
zone_below count [] all n zone e = absurd (cc)
zone_below count (z ∷ zs) all zero zone e = subst (λ (o : Option ℕ). IfSome o (λ number. number < count)) e (all 0 z (omega arith))
zone_below count (z ∷ zs) all (suc n) zone e = zone_below count zs (λ k d h. all (suc k) d (omega arith)) n zone e

module _ (count bound detectors : ℕ) (route : Route) (places : List Place) (passed : List Passed) (are : ArePassed detectors route places passed) where
  onward : IsNonDecreasingBy (λ (one : Passed). one.metres) passed
  onward i j d less within = elim (cases_order i j) [
    | inl same ↦ (let e = ap (λ (k : ℕ). (get_or passed k d).metres) same in omega arith)
    | inr apart ↦ elim apart [
      | inl before ↦
          let up = are.order i j d before within in
          let one = are.metres i d (omega arith) in
          let other = are.metres j d within in
          let more = less_sum places (get_or passed i d).reach (get_or passed j d).reach (omega arith) in
          omega arith
      | inr behind ↦ absurd (omega arith)
    ]
  ]

  covered : IsNonDecreasingBy (λ (one : Passed). one.reach) passed
  covered i j d less within = elim (cases_order i j) [
    | inl same ↦ (let e = ap (λ (k : ℕ). (get_or passed k d).reach) same in omega arith)
    | inr apart ↦ elim apart [
      | inl before ↦ (let up = are.order i j d before within in omega arith)
      | inr behind ↦ absurd (omega arith)
    ]
  ]

  pub whole_sound : (walk : Walk) → walk.passed ≡ passed → AreSound count bound passed walk.zones → walk.stretches ≡ map stretch_of places → walk.releases ≡ releases_at detectors route.releases passed → IsSound count bound walk
  whole_sound walk same sound along released = record {
    sound = record {
      legs = subst (λ (ps : List Passed). length walk.zones + 1 ≡ length ps) (sym same) sound.legs;
      onward = subst (IsNonDecreasingBy (λ (one : Passed). one.metres)) (sym same) onward;
      covered = subst (IsNonDecreasingBy (λ (one : Passed). one.reach)) (sym same) covered;
      within = subst (λ (ps : List Passed). All (λ (one : Passed). one.reach ≤ length walk.stretches) ps) (sym same) (λ k d h.
          let there = (got_within (numbers_at detectors route places) (get_or passed k d).reach (Some (get_or passed k d).point) (are.stand k d h)).0 in
          let long = length-map places (number_at detectors route.exit) in
          let wide = length-map places stretch_of in
          let all : length walk.stretches ≡ length (map stretch_of places) = ap length along in
          omega arith);
      releases = subst IsNonDecreasing (sym released) (releases_rise detectors route.releases passed onward);
    };
    zoned = subst (λ (ps : List Passed). (n : ℕ) (d : Passed) → n + 1 < length ps → slice_index_or walk.zones n None ≡ None → (slice_index_or ps n d).metres ≡ (slice_index_or ps (n + 1) d).metres) (sym same) sound.zoned;
    zones = zone_below count walk.zones sound.below;
    points = subst (λ (ps : List Passed). All (λ (one : Passed). one.point < bound) ps) (sym same) sound.points;
  }

pub ends_are : (infra : Infra) (layout : Layout) (route : Route) (ways : List Way) (entry : Place) (exit : Point) (ending how : Ending) (places : List Place) → ways ≡ route.ways → entry ≡ entry_of infra layout route → exit ≡ exit_of infra route.exit → ending ≡ how
    → Ends (Comes infra layout ways) entry exit ending places → Ends (Comes infra layout route.ways) (entry_of infra layout route) (exit_of infra route.exit) how places
ends_are infra layout route ways entry exit ending how places w e x h ends =
    subst (λ (n : Ending). Ends (Comes infra layout route.ways) (entry_of infra layout route) (exit_of infra route.exit) n places) h
    (subst (λ (n : Point). Ends (Comes infra layout route.ways) (entry_of infra layout route) n ending places) x
    (subst (λ (n : Place). Ends (Comes infra layout route.ways) n exit ending places) e
    (subst (λ (n : List Way). Ends (Comes infra layout n) entry exit ending places) w ends)))

pub released_are : (n detectors : ℕ) (rs releases : List ℕ) (ps passed : List Passed) → n ≡ detectors → rs ≡ releases → ps ≡ passed → releases_at n rs ps ≡ releases_at detectors releases passed
released_are n detectors rs releases ps passed e f g =
    ap (λ (k : ℕ). releases_at k rs ps) e ∙ (ap (λ (k : List ℕ). releases_at detectors k ps) f ∙ ap (λ (k : List Passed). releases_at detectors releases k) g)

pub strays_are : (infra : Infra) (layout : Layout) (route : Route) (entry : Place) (places : List Place) (keys releases : List ℕ) → entry ≡ entry_of infra layout route → keys ≡ detectors_of (entry ∷ places) → releases ≡ route.releases → stray_of infra layout route places ≡ first_stray keys releases
strays_are infra layout route entry places keys releases e k r =
    sym (ap (λ (ks : List ℕ). first_stray ks releases) (k ∙ ap (λ (p : Place). detectors_of (p ∷ places)) e) ∙ ap (first_stray (detectors_of (entry_of infra layout route ∷ places))) r)
