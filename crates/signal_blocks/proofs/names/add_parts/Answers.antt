use Rattle.std.proofs.Common.{rules, ◌≡◌, ◌∷◌, ◌++◌, [], append_assoc}
use Rattle.rail_types.specs.declared.named_network.BlockName.{BlockName}
use Rattle.signal_blocks.specs.Names.{route_parts}
use Rattle.signal_blocks.proofs.Growing.{parts_more}
use Rattle.signal_blocks.proofs.names.add_parts.Goals as goal

pub parts-preserved : goal.parts-preserved
parts-preserved c =
    let item : BlockName = record { route = c.args.id.now; part = c.parts.part } in
    let pushed : c.push.new.self ≡ c.parts.names ++ item ∷ [] = search rules in
    rw (pushed, parts_more c.args.id.now c.parts.part, c.parts.invariant) (append_assoc c.args.names.now (route_parts c.args.id.now c.parts.part) (item ∷ []))
