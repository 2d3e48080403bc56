use Rattle.track_graph.specs.Pieces.{ArePieceRows}
use Rattle.track_graph.proofs.pieces.pieces_by_track.Given as goal

abbrev pub invariant-tracks : goal.invariant-tracks
invariant-tracks l = ArePieceRows l.tracks l.stands l.number l.rows.items
