-- *Inside*: where each track's pieces begin.
use Rattle.std.specs.Prelude.{◌≡◌, ℕ, ◌+◌, ◌≤◌, List, length, slice_index}
use Rattle.track_graph.specs.declared.pieces.Piece.{Piece}
use Rattle.track_graph.specs.Pieces.{first_of}

-- For each track, and behind them, how many pieces stand before.
pub record AreFirsts (rows : List (List Piece)) (firsts : List ℕ) : Type 0 where
  pub long : length firsts ≡ length rows + 1
  pub each : (track : ℕ) → track ≤ length rows → slice_index firsts track ≡ first_of rows track
