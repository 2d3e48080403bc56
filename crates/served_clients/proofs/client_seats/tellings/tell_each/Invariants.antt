use Rattle.std.proofs.Common.{◌≡◌, drop}
use Rattle.admission_rules.specs.Ruled.{stand}
use Rattle.served_clients.specs.Tellings.{told_each}
use Rattle.served_clients.proofs.client_seats.tellings.tell_each.Given as goal

abbrev pub invariant-loop-telling : goal.invariant-loop-telling
invariant-loop-telling g l =
    told_each (drop l.telling-index l.tellings) (stand g.L.Rule l.rules) ≡ told_each l.tellings (stand g.L.Rule l.fn.rules)
