use Rattle.std.proofs.Common.{◌∙◌, sym, subst, ap, List}
use Rattle.rail_types.specs.declared.infra_types.infras.Infra.{Infra}
use Rattle.track_graph.specs.Pieces.{AreOn}
use Rattle.track_graph.specs.Stands.{AreStands, stands_of}
use Rattle.track_graph.specs.declared.stands.Stand.{Stand}
use Rattle.route_walk.specs.Places.{IsPlace, ahead_in, stands_first}
use Rattle.route_walk.proofs.Coming.{come_detector, detector_place}
use Rattle.route_walk.proofs.places.come.Goals as goal

pub returns-then-stands_first-clause-on : goal.returns-then-stands_first-clause-on
returns-then-stands_first-clause-on c =
    let infra = c.args.infra.now in
    let layout = c.args.graph.now in
    let spot = c.args.spot.now in
    let row = stands_of layout.stands spot.track in
    let same = c.requires.layout.is in
    let ahead = sym (c.ahead_in.ensures ∙ ap (λ (r : List Stand). ahead_in spot.direction r spot.gap) c.stands-row.ensures.stands) ∙ c.in-Some.is in
    let first = ap (λ n. stands_first spot.direction n spot.stop c.in-Some.detector.position) (sym c.length_of-length_m.ensures) ∙ (sym c.stands_first.ensures ∙ c.if-stands_first.true) in
    subst (IsPlace infra layout) (sym (come_detector infra layout spot c.in-Some.detector ahead first))
    (detector_place infra layout spot c.in-Some.detector c.requires.spot (subst (λ (i : Infra). AreStands i.detectors spot.track row) same c.stands-row.ensures.row) (subst (λ (i : Infra). AreOn i.tracks spot.track row) same c.stands-row.ensures.within) ahead)
