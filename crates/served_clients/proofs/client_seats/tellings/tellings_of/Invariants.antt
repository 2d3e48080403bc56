use Rattle.std.proofs.Common.{◌≡◌, ◌++◌, drop}
use Rattle.served_clients.specs.Tellings.{own_tellings}
use Rattle.served_clients.proofs.Owned.{told_of_each}
use Rattle.served_clients.proofs.client_seats.tellings.tellings_of.Given as goal

abbrev pub invariant-loop-at : goal.invariant-loop-at
invariant-loop-at l =
    l.tellings.items ++ told_of_each l.history.entries l.name (drop l.at-index l.places)
    ≡ own_tellings l.history.entries l.name
