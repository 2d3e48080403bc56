-- Faults as reports write them.
use Rattle.std.specs.Prelude.{ℕ, ℤ, List, ◌++◌, codes}
use Rattle.std.specs.Fmt.{decimal, signed_decimal}
use Rattle.signal_blocks.specs.declared.block_cuts.faults.What.{What}
use Rattle.signal_blocks.specs.declared.block_cuts.faults.What.TheVariants as what
use Rattle.rail_types.specs.declared.infra_types.ends.End.{End}
use Rattle.rail_types.specs.declared.infra_types.ends.End.TheVariants as ends
use Rattle.json_fields.specs.Escapes.{escaped}
use Rattle.track_graph.specs.declared.faults.GraphFault.{GraphFault}
use Rattle.track_graph.specs.declared.faults.GraphFault.TheVariants as graphs
use Rattle.signal_blocks.specs.declared.faults.NetFault.TheVariants.{Graph, Walk, EmptyBlock, Limit}
use Rattle.signal_blocks.specs.declared.faults.NetFault.TheVariants.{Memory}
use Rattle.signal_blocks.specs.declared.faults.NetFault.{NetFault}
use Rattle.signal_blocks.specs.declared.faults.RouteFault.TheVariants.{NoWay, Loop, StrayRelease}
use Rattle.signal_blocks.specs.declared.faults.RouteFault.{RouteFault}

abbrev pub end_word : End → List ℕ
end_word ends.Begin = codes "BEGIN"
end_word ends.End = codes "END"

abbrev pub word_of : What → List ℕ
word_of what.Zones = codes "zones"
word_of what.Points = codes "points"
word_of what.Blocks = codes "blocks"
word_of what.Cells = codes "cells"
word_of what.BlockLength = codes "block-length"

-- a word and a name
abbrev pub id_fault : List ℕ → List ℕ → List ℕ
id_fault word id = word ++ escaped id

-- a word, a name and the metre
abbrev pub fault_at : List ℕ → List ℕ → ℕ → List ℕ
fault_at word id at = id_fault word id ++ codes " at " ++ decimal at

abbrev pub end_fault : List ℕ → End → List ℕ
end_fault track end = id_fault (codes "end-twice ") track ++ codes " " ++ end_word end

abbrev pub stray_fault : List ℕ → List ℕ → List ℕ
stray_fault route detector =
    id_fault (codes "stray-release ") route ++ codes " " ++ escaped detector

abbrev pub limit_fault : What → ℤ → List ℕ
limit_fault what count = codes "limit " ++ word_of what ++ codes " " ++ signed_decimal count

abbrev pub graph_fault : GraphFault → List ℕ
graph_fault (graphs.EndTwice track end) = end_fault track end
graph_fault (graphs.OffTrack id) = id_fault (codes "off-track ") id
graph_fault graphs.Memory = codes "no-memory"

abbrev pub route_fault : RouteFault → List ℕ
route_fault (NoWay route at) = fault_at (codes "no-way ") route at
route_fault (Loop route) = id_fault (codes "loop ") route
route_fault (StrayRelease route detector) = stray_fault route detector

-- the text of a fault
abbrev pub fault_text : NetFault → List ℕ
fault_text (Graph fault) = graph_fault fault
fault_text (Walk fault) = route_fault fault
fault_text (EmptyBlock route at) = fault_at (codes "empty-block ") route at
fault_text (Limit what count) = limit_fault what count
fault_text Memory = codes "no-memory"
