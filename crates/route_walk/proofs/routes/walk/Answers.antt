use Rattle.std.specs.Prelude.{slice_index_or}
use Rattle.std.proofs.Common.{◌∙◌, ◌∷◌, ◌<◌, ◌≤◌, ℕ, List, length, refl, sym, ap, subst}
use Rattle.std.proofs.lemmas.Option.{slice_get_read}
use Rattle.std.specs.List.{All, sum_by}
use Rattle.route_walk.specs.declared.courses.Ending.{Ending}
use Rattle.route_walk.specs.declared.places.Place.{Place}
use Rattle.route_walk.specs.Courses.{Ends}
use Rattle.route_walk.specs.Legs.{IsBehind, length_m}
use Rattle.route_walk.specs.Walks.{TellsOf}
use Rattle.route_walk.specs.Ways.{Comes}
use Rattle.route_walk.proofs.Wholes.{all_behind, all_short, ends_are, strays_are}
use Rattle.route_walk.proofs.routes.walk.Goals as goal

pub returns-in-NoWay-clause-fault : goal.returns-in-NoWay-clause-fault
returns-in-NoWay-clause-fault c = (
  refl,
  record {
    route = c.index-as_slice-route.result;
    is = slice_get_read c.args.infra.now.routes (length c.args.infra.now.routes) c.args.route c.index-as_slice-route.result refl c.requires.route (rw c.as_slice.ensures at c.index-as_slice-route.is);
    places = c.in_ok-course.course.places.items;
    no_way = ends_are c.args.infra.now c.args.graph.now c.index-as_slice-route.result _ _ _ _ _ c.in_ok-course.course.places.items c.as_slice-ways.ensures c.entry_of-entry.ensures.place c.exit_of-exit.ensures c.in-NoWay.is c.in_ok-course.ensures.ends;
    metres = c.metres_of-at.ensures ∙ ap (λ (ps : List Place). sum_by length_m ps) c.as_slice-places.ensures.value;
  },
)

pub returns-in-Loop-clause-fault : goal.returns-in-Loop-clause-fault
returns-in-Loop-clause-fault c = (
  refl,
  record {
    route = c.index-as_slice-route.result;
    is = slice_get_read c.args.infra.now.routes (length c.args.infra.now.routes) c.args.route c.index-as_slice-route.result refl c.requires.route (rw c.as_slice.ensures at c.index-as_slice-route.is);
    places = c.in_ok-course.course.places.items;
    round = ends_are c.args.infra.now c.args.graph.now c.index-as_slice-route.result _ _ _ _ _ c.in_ok-course.course.places.items c.as_slice-ways.ensures c.entry_of-entry.ensures.place c.exit_of-exit.ensures c.in-Loop.is c.in_ok-course.ensures.ends;
  },
)

pub returns-in-Some-clause-fault : goal.returns-in-Some-clause-fault
returns-in-Some-clause-fault c = (
  refl,
  record {
    route = c.index-as_slice-route.result;
    is = slice_get_read c.args.infra.now.routes (length c.args.infra.now.routes) c.args.route c.index-as_slice-route.result refl c.requires.route (rw c.as_slice.ensures at c.index-as_slice-route.is);
    places = c.in_ok-course.course.places.items;
    reaches = ends_are c.args.infra.now c.args.graph.now c.index-as_slice-route.result _ _ _ _ _ c.in_ok-course.course.places.items c.as_slice-ways.ensures c.entry_of-entry.ensures.place c.exit_of-exit.ensures c.in-Exit.is c.in_ok-course.ensures.ends;
    stray = strays_are c.args.infra.now c.args.graph.now c.index-as_slice-route.result c.entry_of-entry.result c.in_ok-course.course.places.items c.in_ok-course.course.detectors.keys _ c.entry_of-entry.ensures.place (c.in_ok-course.ensures.passed c.in-Exit.is) c.as_slice-releases.ensures ∙ (sym c.first_stray.ensures ∙ c.in-Some.is);
  },
)

pub walk_along-requires-clause-short : goal.walk_along-requires-clause-short
walk_along-requires-clause-short c = subst (λ (ps : List Place). All (λ (place : Place). length_m place ≤ 1000000) ps) (sym c.as_slice-places.ensures.value) (all_short c.args.infra.now c.args.graph.now c.in_ok-course.course.places.items c.requires.infra c.in_ok-course.ensures.places)

pub walk_along-requires-clause-behind : goal.walk_along-requires-clause-behind
walk_along-requires-clause-behind c =
    let through = subst (λ (e : Ending). Ends (Comes c.args.infra.now c.args.graph.now c.as_slice-ways.result.now) c.entry_of-entry.result c.exit_of-exit.result e c.in_ok-course.course.places.items) c.in-Exit.is c.in_ok-course.ensures.ends in
    subst (λ (ps : List Place). (k : ℕ) (d : Place) → k < length ps → IsBehind (slice_index_or (c.entry_of-entry.result ∷ ps) k d) (slice_index_or ps k d)) (sym c.as_slice-places.ensures.value)
    (all_behind c.args.infra.now c.args.graph.now c.as_slice-ways.result.now c.entry_of-entry.result c.exit_of-exit.result c.in_ok-course.course.places.items through)

pub returns-clause-walk : goal.returns-clause-walk
returns-clause-walk c = record {
  route = c.index-as_slice-route.result;
  is = slice_get_read c.args.infra.now.routes (length c.args.infra.now.routes) c.args.route c.index-as_slice-route.result refl c.requires.route (rw c.as_slice.ensures at c.index-as_slice-route.is);
  places = c.in_ok-course.course.places.items;
  reaches = ends_are c.args.infra.now c.args.graph.now c.index-as_slice-route.result _ _ _ _ _ c.in_ok-course.course.places.items c.as_slice-ways.ensures c.entry_of-entry.ensures.place c.exit_of-exit.ensures c.in-Exit.is c.in_ok-course.ensures.ends;
  tells = subst (λ (ps : List Place). TellsOf c.args.infra.now c.args.graph.now c.index-as_slice-route.result ps c.in_ok-walk.walk) c.as_slice-places.ensures.value c.in_ok-walk.ensures.tells;
  own = strays_are c.args.infra.now c.args.graph.now c.index-as_slice-route.result c.entry_of-entry.result c.in_ok-course.course.places.items c.in_ok-course.course.detectors.keys _ c.entry_of-entry.ensures.place (c.in_ok-course.ensures.passed c.in-Exit.is) c.as_slice-releases.ensures ∙ (sym c.first_stray.ensures ∙ c.in_default.is);
}
