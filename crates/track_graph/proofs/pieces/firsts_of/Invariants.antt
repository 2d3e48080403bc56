use Rattle.std.proofs.Common.{◌≡◌, length, take}
use Rattle.std.specs.List.{sum_by}
use Rattle.track_graph.specs.PieceRows.{AreFirsts}
use Rattle.track_graph.proofs.pieces.firsts_of.Given as goal

abbrev pub invariant-rows : goal.invariant-rows
invariant-rows l = record {
  firsts : AreFirsts (take l.row-index l.rows) l.firsts.items;
  count : l.count ≡ sum_by length (take l.row-index l.rows);
}
