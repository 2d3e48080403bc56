use Rattle.std.proofs.Common.{◌≡◌, ◌∙◌, ap, sym, subst, refl, length, List, Option, Some, option_map}
use Rattle.std.proofs.lemmas.Option.{slice_get_read}
use Rattle.rail_types.specs.declared.infra_types.switches.Switch.{Switch}
use Rattle.rail_types.specs.declared.infra_types.tracks.Track.{Track}
use Rattle.track_graph.specs.Faults.{IsFirstTwice}
use Rattle.track_graph.proofs.PortsNamed.{twice_within}
use Rattle.track_graph.proofs.graphs.joints_of.Goals as goal

pub returns-clause-fault : goal.returns-clause-fault
returns-clause-fault c =
    let infra = c.args.infra.now in
    let twice : IsFirstTwice infra.switches c.in-Some.end = subst (λ (s : List Switch). IsFirstTwice s c.in-Some.end) c.as_slice.ensures c.in-Some.ensures in
    let tracks : c.as_slice-tracks.result.now ≡ infra.tracks = c.as_slice-tracks.ensures in
    let within = twice_within (length infra.tracks) infra.switches c.in-Some.end c.requires.switches twice in
    let read = slice_get_read infra.tracks (length infra.tracks) c.in-Some.end.track c.index-tracks-end.result refl within (rw tracks at c.index-tracks-end.is) in
    let named = c.in_ok-copy.ensures in
    (c.in-Some.end.track, ap (λ (o : Option Track). option_map (λ one. one.id) o) read ∙ ap (λ n. Some n) (sym named), twice)
