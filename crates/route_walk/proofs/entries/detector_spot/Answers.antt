use Rattle.std.proofs.Common.{◌≡◌, ◌∙◌, sym, subst, ap, arith, length, ◌<◌, ℕ, List}
use Rattle.rail_types.specs.declared.infra_types.infras.Infra.{Infra}
use Rattle.rail_types.specs.declared.infra_types.tracks.Placed.{Placed}
use Rattle.track_graph.specs.Pieces.{AreOn}
use Rattle.track_graph.specs.Stands.{AreStands, stands_of}
use Rattle.route_walk.specs.Entries.{metre_at, track_at}
use Rattle.route_walk.proofs.Starts.{detector_on, metre_short, track_in}
use Rattle.route_walk.proofs.entries.detector_spot.Goals as goal

pub stands-stands-requires : goal.stands-stands-requires
stands-stands-requires c =
    let same = c.requires.layout.is in
    let track : c.track_at-track.result ≡ track_at c.args.infra.now.detectors c.args.number = c.track_at-track.ensures ∙ ap (λ (all : List Placed). track_at all c.args.number) c.as_slice-detectors.ensures in
    subst (λ (i : Infra). c.track_at-track.result < length i.tracks) (sym same)
    (subst (λ (t : ℕ). t < length c.args.infra.now.tracks) (sym track) (track_in (length c.args.infra.now.tracks) c.args.infra.now.detectors c.args.number c.requires.infra.detectors c.requires.number))

pub stops-stops-requires : goal.stops-stops-requires
stops-stops-requires c =
    let same = c.requires.layout.is in
    let track : c.track_at-track.result ≡ track_at c.args.infra.now.detectors c.args.number = c.track_at-track.ensures ∙ ap (λ (all : List Placed). track_at all c.args.number) c.as_slice-detectors.ensures in
    subst (λ (i : Infra). c.track_at-track.result < length i.tracks) (sym same)
    (subst (λ (t : ℕ). t < length c.args.infra.now.tracks) (sym track) (track_in (length c.args.infra.now.tracks) c.args.infra.now.detectors c.args.number c.requires.infra.detectors c.requires.number))

pub side_of_detector-side-requires : goal.side_of_detector-side-requires
side_of_detector-side-requires c =
    let same = c.requires.layout.is in
    let track : c.track_at-track.result ≡ track_at c.args.infra.now.detectors c.args.number = c.track_at-track.ensures ∙ ap (λ (all : List Placed). track_at all c.args.number) c.as_slice-detectors.ensures in
    let at : c.metre_at-at.result ≡ metre_at c.args.infra.now.detectors c.args.number = c.metre_at-at.ensures ∙ ap (λ (all : List Placed). metre_at all c.args.number) c.as_slice-detectors.ensures in
    let row = subst (λ (i : Infra). AreStands i.detectors c.track_at-track.result (stands_of c.args.graph.now.stands c.track_at-track.result)) same c.stands-stands.ensures.row in
    let on = subst (λ (i : Infra). AreOn i.tracks c.track_at-track.result (stands_of c.args.graph.now.stands c.track_at-track.result)) same c.stands-stands.ensures.within in
    let short = metre_short c.args.infra.now c.args.infra.now.detectors c.args.number (stands_of c.args.graph.now.stands) c.track_at-track.result c.requires.infra c.requires.number (sym track) row on in
    omega arith

pub returns-clause-on : goal.returns-clause-on
returns-clause-on c =
    let same = c.requires.layout.is in
    let track : c.track_at-track.result ≡ track_at c.args.infra.now.detectors c.args.number = c.track_at-track.ensures ∙ ap (λ (all : List Placed). track_at all c.args.number) c.as_slice-detectors.ensures in
    let t = c.track_at-track.result in
    let layout = c.args.graph.now in
    let row = subst (λ (n : ℕ). AreStands c.args.infra.now.detectors n (stands_of layout.stands n)) track (subst (λ (i : Infra). AreStands i.detectors t (stands_of layout.stands t)) same c.stands-stands.ensures.row) in
    let on = subst (λ (n : ℕ). AreOn c.args.infra.now.tracks n (stands_of layout.stands n)) track (subst (λ (i : Infra). AreOn i.tracks t (stands_of layout.stands t)) same c.stands-stands.ensures.within) in
    let stops = subst (λ (n : ℕ). AreOn c.args.infra.now.tracks n (stands_of layout.stops n)) track (subst (λ (i : Infra). AreOn i.tracks t (stands_of layout.stops t)) same c.stops-stops.ensures.within) in
    detector_on c.args.infra.now layout c.args.direction c.args.number c.requires.number c.requires.infra.detectors row on stops
