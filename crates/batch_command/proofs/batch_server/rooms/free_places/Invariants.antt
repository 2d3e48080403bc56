use Rattle.std.proofs.Common.{◌≡◌, None, filter, get_or, is_none}
use Rattle.std.specs.List.{range_with_len}
use Rattle.batch_command.proofs.batch_server.rooms.free_places.Given as goal

abbrev pub invariant-loop-at : goal.invariant-loop-at
invariant-loop-at l = l.places.items ≡ filter (λ at. is_none (get_or l.owners at None)) (range_with_len 0 l.at)
