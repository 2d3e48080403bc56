use Rattle.std.proofs.Common.{◌≡◌, length, []}
use Rattle.std.specs.List.{All}
use Rattle.track_graph.proofs.neighbours.no_neighbours.Given as goal

abbrev pub invariant-pieces : goal.invariant-pieces
invariant-pieces l = record { long : length l.rows.items ≡ l.counter; none : All (λ row. row ≡ []) l.rows.items }
