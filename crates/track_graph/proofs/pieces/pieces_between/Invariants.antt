use Rattle.std.proofs.Common.{◌≡◌, ◌++◌, length, drop}
use Rattle.track_graph.specs.Pieces.{pieces_from}
use Rattle.track_graph.proofs.pieces.pieces_between.Given as goal

abbrev pub invariant-cuts : goal.invariant-cuts
invariant-cuts l = record {
  pieces : l.pieces ++ pieces_from l.track l.begin (drop l.cut-index l.cuts) l.length_m ≡ pieces_from l.track 0 l.cuts l.length_m;
  count : length l.pieces ≡ l.cut-index;
}
