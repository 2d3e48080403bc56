use Rattle.std.proofs.Common.{◌≡◌, ◌-◌, ◌++◌, filter, length, slice_get}
use Rattle.line_answers.specs.gate.Views.{positions}
use Rattle.served_clients.specs.Tellings.{may_tell, told_positions}
use Rattle.served_clients.proofs.client_seats.tellings.told_positions.Given as goal

abbrev pub invariant-loop-at : goal.invariant-loop-at
invariant-loop-at l =
    l.places.items ++ filter (λ p. may_tell (slice_get l.history.entries p)) (positions l.at (length l.history.entries - l.at))
    ≡ told_positions l.history.entries
