-- Faults as they are told, and a network with its names.
use Rattle.std.proofs.Common.{◌≡◌, ℕ, ◌+◌, ◌<◌, ◌≤◌, List, [], ◌∷◌, ◌++◌, length, Option, None, refl, sym, ◌∙◌, arith, length-append}
use Rattle.std.specs.List.{All, range_with_len}
use Rattle.std.proofs.lemmas.List.Elements.{All-nil, All-cons, All-append, All-head, All-tail, All-map}
use Rattle.std.proofs.lemmas.List.FromFn.{length-map-range_with_len}
use Rattle.std.proofs.lemmas.List.{get_or_push, get_or_append_left, length-map}
use native.Mathlib.Decide.{ℕ_discrete}
use Rattle.std.proofs.lemmas.List.Sums.{sum_by-cons}
use Rattle.signal_blocks.specs.Cuts.{block_count}
use Rattle.signal_blocks.specs.Faults.{count_blocks}
use Rattle.signal_blocks.specs.declared.block_cuts.faults.Fault.{Fault}
use Rattle.signal_blocks.specs.declared.block_cuts.faults.Fault.TheVariants as faults
use Rattle.rail_types.specs.declared.infra_types.infras.Infra.{Infra}
use Rattle.rail_types.specs.declared.infra_types.routes.Route.{Route}
use Rattle.rail_types.specs.declared.named_network.BlockName.{BlockName}
use Rattle.rail_types.specs.Named.{IsId, IsNamed}
use Rattle.rail_types.specs.declared.named_network.Named.{Named}
use Rattle.rail_types.specs.declared.named_network.ZoneName.{ZoneName}
use Rattle.rail_types.specs.declared.infra_types.tracks.OperationalPoint.{OperationalPoint}
use Rattle.rail_types.specs.Infras.{IsInfra}
use Rattle.rail_types.specs.Flaws.{first_flaw}
use Rattle.route_walk.specs.declared.walks.Walk.{Walk}
use Rattle.route_walk.specs.declared.walks.WalkFault.{WalkFault}
use Rattle.route_walk.specs.declared.walks.WalkFault.TheVariants as walks
use Rattle.route_walk.specs.Walks.{IsWalkOf, WalkTells}
use Rattle.track_graph.specs.declared.faults.GraphFault.{GraphFault}
use Rattle.track_graph.specs.declared.faults.GraphFault.TheVariants as graphs
use Rattle.track_graph.specs.Layouts.{IsLayoutOf, Layout, Tells}
use Rattle.signal_blocks.specs.Inside.{told_blocks, told_graph, told_walk}
use Rattle.signal_blocks.specs.Names.{block_names, route_parts, zone_name, zoned_pieces}
use Rattle.signal_blocks.specs.Networks.{HasFault, IsNetworkOf, NetTells, named_fault}
use Rattle.signal_blocks.specs.Railways.{AreWalksOf}

pub graph_tells : (infra : Infra) (fault : GraphFault) → Tells infra fault → NetTells infra (told_graph fault)
graph_tells infra (graphs.EndTwice track end) tells = (tells, λ e. cc e)
graph_tells infra (graphs.OffTrack id) tells = (tells, λ e. cc e)
graph_tells infra graphs.Memory tells = tt

pub walk_tells : (infra : Infra) (layout : Layout) (route : ℕ) (before : List Walk) (fault : WalkFault) → IsLayoutOf infra layout → route < length infra.routes → AreWalksOf infra layout route before → WalkTells infra layout route fault
    → NetTells infra (told_walk (named_fault infra fault))
walk_tells infra layout route before (walks.NoWay r at) is within walked tells = record { layout = layout; is = is; route = route; within = within; before = before; walked = walked; why = walks.NoWay r at; tells = tells; named = refl }
walk_tells infra layout route before (walks.Loop r) is within walked tells = record { layout = layout; is = is; route = route; within = within; before = before; walked = walked; why = walks.Loop r; tells = tells; named = refl }
walk_tells infra layout route before (walks.StrayRelease r d) is within walked tells = record { layout = layout; is = is; route = route; within = within; before = before; walked = walked; why = walks.StrayRelease r d; tells = tells; named = refl }
walk_tells infra layout route before walks.Memory is within walked tells = tt

pub blocks_tell : (infra : Infra) (fault : Fault) → HasFault infra fault → NetTells infra (told_blocks infra fault)
blocks_tell infra (faults.EmptyBlock route at) has = (route, refl, has)
blocks_tell infra (faults.Limit what count) has = has

pub each_few : (sights : List (Option ℕ)) (walks : List Walk) (most : ℕ) → count_blocks sights walks ≤ most → All (λ walk. block_count sights walk ≤ most) walks
each_few sights [] most le = All-nil (λ walk. block_count sights walk ≤ most)
each_few sights (walk ∷ walks) most le =
    let all = sum_by-cons (block_count sights) walk walks in
    All-cons (λ walk. block_count sights walk ≤ most) walk walks (omega (arith, le, all)) (each_few sights walks most (omega (arith, le, all)))

pub names_counted : (sights : List (Option ℕ)) (routes : List Route) (walks : List Walk) → length walks ≡ length routes → length (block_names sights routes walks) ≡ count_blocks sights walks
names_counted sights [] [] same = refl
names_counted sights [] (walk ∷ walks) same = absurd (omega (arith, same))
names_counted sights (route ∷ routes) [] same = absurd (omega (arith, same))
names_counted sights (route ∷ routes) (walk ∷ walks) same =
    let here = length-append (route_parts route.id (block_count sights walk)) (block_names sights routes walks) in
    let own = length-map-range_with_len {X = BlockName} (λ part. record { route = route.id; part = part }) 0 (block_count sights walk) in
    let rest = names_counted sights routes walks (omega (arith, same)) in
    let all = sum_by-cons (block_count sights) walk walks in
    omega (arith, here, own, rest, all)

pub names_are_ids : (sights : List (Option ℕ)) (routes : List Route) (walks : List Walk) → All (λ route. IsId route.id) routes → All (λ block. IsId block.route) (block_names sights routes walks)
names_are_ids sights [] walks ids = All-nil (λ (block : BlockName). IsId block.route)
names_are_ids sights (route ∷ routes) [] ids = All-nil (λ (block : BlockName). IsId block.route)
names_are_ids sights (route ∷ routes) (walk ∷ walks) ids =
    let here : IsId route.id = All-head (λ (route : Route). IsId route.id) route routes ids in
    All-append (λ (block : BlockName). IsId block.route) (route_parts route.id (block_count sights walk)) (block_names sights routes walks)
    (All-map (λ (block : BlockName). IsId block.route) (λ part. record { route = route.id; part = part }) (range_with_len 0 (block_count sights walk)) (λ k d lt. here))
    (names_are_ids sights routes walks (All-tail (λ (route : Route). IsId route.id) route routes ids))

pub walked_more : (infra : Infra) (layout : Layout) (count : ℕ) (before : List Walk) (walk : Walk) → AreWalksOf infra layout count before → IsWalkOf infra layout count walk → AreWalksOf infra layout (count + 1) (before ++ walk ∷ [])
walked_more infra layout count before walk are is =
    let long = are.long in
    let more = length-append before (walk ∷ []) in
    record {
      long = omega (arith, long, more);
      each = λ route d lt. elim (ℕ_discrete route count) [
        | yes here ↦ (let at : length before ≡ route = omega (arith, long, here) in rw (get_or_push before walk d route at, here) is)
        | no apart ↦ (let below : route < count = omega (arith, lt, apart) in rw (get_or_append_left before (walk ∷ []) d route (omega (arith, long, below))) (are.each route d below))
      ];
    }

-- the network of an infrastructure has names for all that it has
pub is_named : (infra : Infra) (named : Named) → IsInfra infra → (it : IsNetworkOf infra named) → first_flaw named.network ≡ None → length named.network.blocks ≡ count_blocks it.railway.lines.sights it.railway.walks
    → All (λ zone. All (λ piece. IsId piece.track) zone.pieces) named.zones → IsNamed named
is_named infra named is it sound count ids = record {
  sound = sound;
  stops = rw it.stops (length-map infra.points (λ (point : OperationalPoint). point.id) ∙ sym it.is.stops ∙ sym it.network.stops);
  blocks = rw it.blocks (names_counted it.railway.lines.sights infra.routes it.railway.walks it.is.walks.long ∙ sym count);
  zones = rw it.zones (length-map-range_with_len {X = ZoneName} (zone_name infra.tracks (zoned_pieces it.layout (length infra.tracks))) 0 it.layout.count ∙ sym it.is.zones ∙ sym it.network.zones);
  stop_ids = rw it.stops (All-map IsId (λ (point : OperationalPoint). point.id) infra.points is.ids.points);
  route_ids = rw it.blocks (names_are_ids it.railway.lines.sights infra.routes it.railway.walks is.ids.routes);
  track_ids = ids;
}
