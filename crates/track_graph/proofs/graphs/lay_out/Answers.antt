use Rattle.std.proofs.Common.{◌≡◌, ◌∙◌, ℕ, List, ap, sym, subst, length, arith}
use Rattle.std.specs.List.{sum_by}
use Rattle.rail_types.specs.declared.infra_types.infras.Infra.{Infra}
use Rattle.rail_types.specs.declared.infra_types.switches.Switch.{Switch}
use Rattle.track_graph.specs.declared.neighbours.Join.{Join}
use Rattle.track_graph.specs.Graphs.{IsGraph}
use Rattle.track_graph.specs.Neighbours.{AreNamed, AreWithin, stars}
use Rattle.track_graph.specs.Zones.{AreZones}
use Rattle.track_graph.proofs.LaidOut.{all_within, laid_out, last_total, offsets_rise, read_total}
use Rattle.track_graph.proofs.graphs.lay_out.Goals as goal

pub joins_of-requires-clause-rise : goal.joins_of-requires-clause-rise
joins_of-requires-clause-rise c =
    let on = rw (c.as_slice-tracks.ensures, c.as_slice.ensures) at c.in_ok-stands.ensures in
    let cut = rw (c.as_slice-tracks.ensures, c.deref.ensures.value) at c.in_ok-pieces.ensures in
    let offsets = rw c.deref-2.ensures.value at c.in_ok-firsts.ensures in
    rw c.deref-3.ensures.value (offsets_rise c.args.infra.now c.requires.infra c.in_ok-stands.stands.items on c.in_ok-pieces.pieces.items cut c.in_ok-firsts.firsts.items offsets)

pub zones_of-requires : goal.zones_of-requires
zones_of-requires c =
    let on = rw (c.as_slice-tracks.ensures, c.as_slice.ensures) at c.in_ok-stands.ensures in
    let cut = rw (c.as_slice-tracks.ensures, c.deref.ensures.value) at c.in_ok-pieces.ensures in
    let offsets = rw c.deref-2.ensures.value at c.in_ok-firsts.ensures in
    let stands = c.in_ok-stands.stands.items in
    let pieces = c.in_ok-pieces.pieces.items in
    let firsts = c.in_ok-firsts.firsts.items in
    let joins : c.in_ok-joins.joins.items ≡ stars firsts c.args.infra.now.switches = c.in_ok-joins.ensures ∙ (ap (λ (f : List ℕ). stars f c.as_slice-switches.result.now) c.deref-3.ensures.value ∙ ap (λ (s : List Switch). stars firsts s) c.as_slice-switches.ensures) in
    let total = last_total c.args.infra.now c.requires.infra stands on pieces cut firsts offsets in
    let is_total = read_total firsts (length c.args.infra.now.tracks) (length c.as_slice-tracks.result.now) c.index.result.now (sum_by length pieces) c.index.ensures (ap length c.as_slice-tracks.ensures) (omega (arith, offsets.long, cut.long)) total in
    let whole = all_within c.args.infra.now c.requires.infra stands on pieces cut firsts offsets in
    subst (λ (js : List Join). AreWithin c.index.result.now js) (sym (c.deref-4.ensures.value ∙ joins)) (subst (λ (n : ℕ). AreWithin n (stars firsts c.args.infra.now.switches)) (sym is_total) whole)

pub invariant_of-result : goal.invariant_of-result
invariant_of-result c =
    let on = rw (c.as_slice-tracks.ensures, c.as_slice.ensures) at c.in_ok-stands.ensures in
    let cut = rw (c.as_slice-tracks.ensures, c.deref.ensures.value) at c.in_ok-pieces.ensures in
    let offsets = rw c.deref-2.ensures.value at c.in_ok-firsts.ensures in
    let stands = c.in_ok-stands.stands.items in
    let pieces = c.in_ok-pieces.pieces.items in
    let firsts = c.in_ok-firsts.firsts.items in
    let joins : c.in_ok-joins.joins.items ≡ stars firsts c.args.infra.now.switches = c.in_ok-joins.ensures ∙ (ap (λ (f : List ℕ). stars f c.as_slice-switches.result.now) c.deref-3.ensures.value ∙ ap (λ (s : List Switch). stars firsts s) c.as_slice-switches.ensures) in
    let total = last_total c.args.infra.now c.requires.infra stands on pieces cut firsts offsets in
    let is_total = read_total firsts (length c.args.infra.now.tracks) (length c.as_slice-tracks.result.now) c.index.result.now (sum_by length pieces) c.index.ensures (ap length c.as_slice-tracks.ensures) (omega (arith, offsets.long, cut.long)) total in
    let zoned = subst (λ (n : ℕ). AreZones (AreNamed (stars firsts c.args.infra.now.switches)) n c.in_ok-zones.zones.count c.in_ok-zones.zones.of_pieces.items) is_total
    (subst (λ (js : List Join). AreZones (AreNamed js) c.index.result.now c.in_ok-zones.zones.count c.in_ok-zones.zones.of_pieces.items) (c.deref-4.ensures.value ∙ joins) c.in_ok-zones.ensures) in
    let stopped = rw (c.as_slice-tracks.ensures, c.as_slice-2.ensures) at c.in_ok-stops.ensures in
    let kept = rw c.as_slice-switches.ensures at c.in_ok-junctions.ensures in
    let graph = laid_out c.args.infra.now c.requires.infra stands on pieces cut firsts offsets c.in_ok-stops.stops.items stopped c.in_ok-zones.zones.count c.in_ok-zones.zones.of_pieces.items c.args.joints.items c.in_ok-junctions.junctions.items zoned c.requires.joints kept c.requires.within in
    let same : c.of.result.value ≡ c.args.infra.now = c.of.ensures in
    let there = subst (λ (i : Infra). IsGraph (record { infra = i; stands = stands; stops = c.in_ok-stops.stops.items; pieces = pieces; count = c.in_ok-zones.zones.count; zones = c.in_ok-zones.zones.of_pieces.items }) firsts c.args.joints.items c.in_ok-junctions.junctions.items) (sym same) graph in
    there

pub returns : goal.returns
returns c =
    let on = rw (c.as_slice-tracks.ensures, c.as_slice.ensures) at c.in_ok-stands.ensures in
    let cut = rw (c.as_slice-tracks.ensures, c.deref.ensures.value) at c.in_ok-pieces.ensures in
    let offsets = rw c.deref-2.ensures.value at c.in_ok-firsts.ensures in
    let stands = c.in_ok-stands.stands.items in
    let pieces = c.in_ok-pieces.pieces.items in
    let firsts = c.in_ok-firsts.firsts.items in
    let joins : c.in_ok-joins.joins.items ≡ stars firsts c.args.infra.now.switches = c.in_ok-joins.ensures ∙ (ap (λ (f : List ℕ). stars f c.as_slice-switches.result.now) c.deref-3.ensures.value ∙ ap (λ (s : List Switch). stars firsts s) c.as_slice-switches.ensures) in
    let total = last_total c.args.infra.now c.requires.infra stands on pieces cut firsts offsets in
    let is_total = read_total firsts (length c.args.infra.now.tracks) (length c.as_slice-tracks.result.now) c.index.result.now (sum_by length pieces) c.index.ensures (ap length c.as_slice-tracks.ensures) (omega (arith, offsets.long, cut.long)) total in
    let zoned = subst (λ (n : ℕ). AreZones (AreNamed (stars firsts c.args.infra.now.switches)) n c.in_ok-zones.zones.count c.in_ok-zones.zones.of_pieces.items) is_total
    (subst (λ (js : List Join). AreZones (AreNamed js) c.index.result.now c.in_ok-zones.zones.count c.in_ok-zones.zones.of_pieces.items) (c.deref-4.ensures.value ∙ joins) c.in_ok-zones.ensures) in
    let stopped = rw (c.as_slice-tracks.ensures, c.as_slice-2.ensures) at c.in_ok-stops.ensures in
    let kept = rw c.as_slice-switches.ensures at c.in_ok-junctions.ensures in
    let graph = laid_out c.args.infra.now c.requires.infra stands on pieces cut firsts offsets c.in_ok-stops.stops.items stopped c.in_ok-zones.zones.count c.in_ok-zones.zones.of_pieces.items c.args.joints.items c.in_ok-junctions.junctions.items zoned c.requires.joints kept c.requires.within in
    let same : c.of.result.value ≡ c.args.infra.now = c.of.ensures in
    let there = subst (λ (i : Infra). IsGraph (record { infra = i; stands = stands; stops = c.in_ok-stops.stops.items; pieces = pieces; count = c.in_ok-zones.zones.count; zones = c.in_ok-zones.zones.of_pieces.items }) firsts c.args.joints.items c.in_ok-junctions.junctions.items) (sym same) graph in
    record { is = same; sound = there.sound }
