-- A route has one walk, or one fault.
use Rattle.std.proofs.Common.{◌≡◌, ◌∙◌, ℕ, List, [], ◌∷◌, Option, Some, None, refl, sym, ap, subst}
use Rattle.std.specs.Prelude.{slice_get}
use Rattle.std.specs.List.{sum_by}
use Rattle.rail_types.specs.declared.infra_types.ends.TrackEnd.{TrackEnd}
use Rattle.rail_types.specs.declared.infra_types.infras.Infra.{Infra}
use Rattle.rail_types.specs.declared.infra_types.routes.Route.{Route}
use Rattle.rail_types.specs.declared.infra_types.switches.Way.{Way}
use Rattle.track_graph.specs.Layouts.{IsLayoutOf, Layout}
use Rattle.route_walk.specs.declared.places.Place.{Place}
use Rattle.route_walk.specs.declared.places.Point.{Point}
use Rattle.route_walk.specs.declared.places.Spot.{Spot}
use Rattle.route_walk.specs.declared.walks.Passed.{Passed}
use Rattle.route_walk.specs.declared.walks.Stretch.{Stretch}
use Rattle.route_walk.specs.declared.walks.Walk.{Walk}
use Rattle.route_walk.specs.declared.walks.WalkFault.{WalkFault}
use Rattle.route_walk.specs.declared.walks.WalkFault.TheVariants.{NoWay, Loop, StrayRelease, Memory}
use Rattle.route_walk.specs.Courses.{HasNoWay, IsRound}
use Rattle.route_walk.specs.Entries.{entry_of, exit_of}
use Rattle.route_walk.specs.Legs.{length_m}
use Rattle.route_walk.specs.Places.{begin_of, come}
use Rattle.route_walk.specs.Releases.{releases_at}
use Rattle.route_walk.specs.Walks.{EndsAt, GoesRound, IsRouteAt, IsWalkOf, Reaches, Strays, TellsOf, WalkTells, stray_of}
use Rattle.route_walk.specs.Ways.{Comes, ComesFrom}
use Rattle.route_walk.proofs.Leading.{got_same, leads_one}
use Rattle.route_walk.proofs.OnePassed.{one_passed}
use Rattle.route_walk.proofs.Unique.{one_no_way, one_way, round_or_no_way, way_or_no_way, way_or_round}

abbrev walk_of : List Passed → List (Option ℕ) → List Stretch → List ℕ → Walk
walk_of passed zones stretches releases = record { passed = passed; zones = zones; stretches = stretches; releases = releases }

same_walk : (one other : Walk) → one.passed ≡ other.passed → one.zones ≡ other.zones → one.stretches ≡ other.stretches → one.releases ≡ other.releases → one ≡ other
same_walk one other p z s r =
    ap (λ (x : List Passed). walk_of x one.zones one.stretches one.releases) p
    ∙ (ap (λ (x : List (Option ℕ)). walk_of other.passed x one.stretches one.releases) z
    ∙ (ap (λ (x : List Stretch). walk_of other.passed other.zones x one.releases) s
    ∙ ap (λ (x : List ℕ). walk_of other.passed other.zones other.stretches x) r))

stray_or_none : (o : Option ℕ) (d : ℕ) → o ≡ None → o ≡ Some d → ⊥
stray_or_none o d e h = absurd (cc)

one_stray : (o : Option ℕ) (d d' : ℕ) → o ≡ Some d → o ≡ Some d' → d ≡ d'
one_stray o d d' e h = (cc)

module _ (infra : Infra) (layout : Layout) (lay : IsLayoutOf infra layout) where
  comes_by : (ways : List Way) (point : Option Point) (spot : Spot) (b c : Place) → ComesFrom point infra layout ways spot b → ComesFrom point infra layout ways spot c → b ≡ c
  comes_by ways None spot b c (end, to, is) (end', to', is') =
      let same = leads_one layout.infra.switches ways lay.sound.once _ end end' to to' in
      is ∙ ap (λ (e : TrackEnd). come infra layout (begin_of infra layout e)) same ∙ sym is'
  comes_by ways (Some point) spot b c is is' = is ∙ sym is'

  comes_one : (ways : List Way) (a b c : Place) → Comes infra layout ways a b → Comes infra layout ways a c → b ≡ c
  comes_one ways a b c is is' = comes_by ways a.point a.spot b c is is'

  same_route : (number : ℕ) (route route' : Route) → IsRouteAt infra number route → IsRouteAt infra number route' → route' ≡ route
  same_route number route route' is is' = got_same infra.routes infra.routes number number route' route refl refl is' is

  module _ (route : Route) where
    one_reach : (places others : List Place) → Reaches infra layout route places → Reaches infra layout route others → places ≡ others
    one_reach places others r r' = one_way (Comes infra layout route.ways) (comes_one route.ways) (entry_of infra layout route) (exit_of infra route.exit) places others r r'

    same_tells : (places : List Place) (one other : Walk) → TellsOf infra layout route places one → TellsOf infra layout route places other → one ≡ other
    same_tells places one other tells tells' =
        let passed = one_passed _ route places one.passed other.passed tells.points tells'.points in
        same_walk one other passed (tells.between ∙ sym tells'.between) (tells.along ∙ sym tells'.along)
        (tells.released ∙ (ap (releases_at _ route.releases) passed ∙ sym tells'.released))

  module _ (number : ℕ) where
    pub one_walk : (one other : Walk) → IsWalkOf infra layout number one → IsWalkOf infra layout number other → one ≡ other
    one_walk one other is is' =
        let same = same_route number is.route is'.route is.is is'.is in
        let reaches = subst (λ (r : Route). Reaches infra layout r is'.places) same is'.reaches in
        let tells = subst (λ (r : Route). TellsOf infra layout r is'.places other) same is'.tells in
        let places = one_reach is.route is.places is'.places is.reaches reaches in
        same_tells is.route is.places one other is.tells (subst (λ (ps : List Place). TellsOf infra layout is.route ps other) (sym places) tells)

    abbrev NoWayOf : Route → List Place → Type 0
    NoWayOf route places = HasNoWay (Comes infra layout route.ways) (entry_of infra layout route) (exit_of infra route.exit) places

    abbrev RoundOf : Route → List Place → Type 0
    RoundOf route places = IsRound (Comes infra layout route.ways) (entry_of infra layout route) (exit_of infra route.exit) places

    one_end : (at at' : ℕ) → EndsAt infra layout number at → EndsAt infra layout number at' → at ≡ at'
    one_end at at' is is' =
        let same = same_route number is.route is'.route is.is is'.is in
        let no_way = subst (λ (r : Route). NoWayOf r is'.places) same is'.no_way in
        let places = one_no_way (Comes infra layout is.route.ways) (comes_one is.route.ways) (entry_of infra layout is.route) (exit_of infra is.route.exit) is.places is'.places is.no_way no_way in
        is.metres ∙ (ap (λ (ps : List Place). sum_by length_m ps) places ∙ sym is'.metres)

    end_or_round : (at : ℕ) → EndsAt infra layout number at → GoesRound infra layout number → ⊥
    end_or_round at is is' =
        let same = same_route number is.route is'.route is.is is'.is in
        let round = subst (λ (r : Route). RoundOf r is'.places) same is'.round in
        round_or_no_way (Comes infra layout is.route.ways) (comes_one is.route.ways) (entry_of infra layout is.route) (exit_of infra is.route.exit) is'.places is.places round is.no_way

    reach_or_end : (route : Route) (places : List Place) (at : ℕ) → IsRouteAt infra number route → Reaches infra layout route places → EndsAt infra layout number at → ⊥
    reach_or_end route places at is reaches is' =
        let same = same_route number route is'.route is is'.is in
        let no_way = subst (λ (r : Route). NoWayOf r is'.places) same is'.no_way in
        way_or_no_way (Comes infra layout route.ways) (comes_one route.ways) (entry_of infra layout route) (exit_of infra route.exit) places is'.places reaches no_way

    reach_or_round : (route : Route) (places : List Place) → IsRouteAt infra number route → Reaches infra layout route places → GoesRound infra layout number → ⊥
    reach_or_round route places is reaches is' =
        let same = same_route number route is'.route is is'.is in
        let round = subst (λ (r : Route). RoundOf r is'.places) same is'.round in
        way_or_round (Comes infra layout route.ways) (comes_one route.ways) (entry_of infra layout route) (exit_of infra route.exit) places is'.places reaches round

    -- the strays of two runs of one route
    same_stray : (route route' : Route) (places places' : List Place) → IsRouteAt infra number route → IsRouteAt infra number route' → Reaches infra layout route places → Reaches infra layout route' places'
        → stray_of infra layout route places ≡ stray_of infra layout route' places'
    same_stray route route' places places' is is' reaches reaches' =
        let same = same_route number route route' is is' in
        let places = one_reach route places places' reaches (subst (λ (r : Route). Reaches infra layout r places') same reaches') in
        ap (λ (ps : List Place). stray_of infra layout route ps) places ∙ ap (λ (r : Route). stray_of infra layout r places') (sym same)

    pub walk_or_fault : (walk : Walk) (fault : WalkFault) → (fault ≡ Memory → ⊥) → IsWalkOf infra layout number walk → WalkTells infra layout number fault → ⊥
    walk_or_fault walk (NoWay route at) other is (_, tells) = reach_or_end is.route is.places at is.is is.reaches tells
    walk_or_fault walk (Loop route) other is (_, tells) = reach_or_round is.route is.places is.is is.reaches tells
    walk_or_fault walk (StrayRelease route detector) other is (_, tells) =
        stray_or_none _ detector is.own (same_stray is.route tells.route is.places tells.places is.is tells.is is.reaches tells.reaches ∙ tells.stray)
    walk_or_fault walk Memory other is tells = other refl

    pub one_fault : (one other : WalkFault) → (one ≡ Memory → ⊥) → (other ≡ Memory → ⊥) → WalkTells infra layout number one → WalkTells infra layout number other → one ≡ other
    one_fault Memory other m m' tells tells' = absurd (m refl)
    one_fault (NoWay r at) Memory m m' tells tells' = absurd (m' refl)
    one_fault (Loop r) Memory m m' tells tells' = absurd (m' refl)
    one_fault (StrayRelease r d) Memory m m' tells tells' = absurd (m' refl)
    one_fault (NoWay r at) (NoWay r' at') m m' (n, tells) (n', tells') =
        ap (λ (x : ℕ). NoWay x at) (n ∙ sym n') ∙ ap (λ (x : ℕ). NoWay r' x) (one_end at at' tells tells')
    one_fault (NoWay r at) (Loop r') m m' (n, tells) (n', tells') = absurd (end_or_round at tells tells')
    one_fault (NoWay r at) (StrayRelease r' d) m m' (n, tells) (n', tells') = absurd (reach_or_end tells'.route tells'.places at tells'.is tells'.reaches tells)
    one_fault (Loop r) (NoWay r' at) m m' (n, tells) (n', tells') = absurd (end_or_round at tells' tells)
    one_fault (Loop r) (Loop r') m m' (n, tells) (n', tells') = ap (λ (x : ℕ). Loop x) (n ∙ sym n')
    one_fault (Loop r) (StrayRelease r' d) m m' (n, tells) (n', tells') = absurd (reach_or_round tells'.route tells'.places tells'.is tells'.reaches tells)
    one_fault (StrayRelease r d) (NoWay r' at) m m' (n, tells) (n', tells') = absurd (reach_or_end tells.route tells.places at tells.is tells.reaches tells')
    one_fault (StrayRelease r d) (Loop r') m m' (n, tells) (n', tells') = absurd (reach_or_round tells.route tells.places tells.is tells.reaches tells')
    one_fault (StrayRelease r d) (StrayRelease r' d') m m' (n, tells) (n', tells') =
        let same = same_stray tells.route tells'.route tells.places tells'.places tells.is tells'.is tells.reaches tells'.reaches in
        ap (λ (x : ℕ). StrayRelease x d) (n ∙ sym n') ∙ ap (λ (x : ℕ). StrayRelease r' x) (one_stray _ d d' (sym same ∙ tells.stray) tells'.stray)
