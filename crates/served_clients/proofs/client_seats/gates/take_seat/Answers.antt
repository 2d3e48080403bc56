use Rattle.std.proofs.Common.{ap, ◌∙◌}
use Rattle.admission_rules.specs.Ruled.{stand}
use Rattle.served_clients.specs.Seats.{found_at}
use Rattle.served_clients.specs.Tellings.{told_each}
use Rattle.served_clients.proofs.Owned.{own_tellings_tell}
use Rattle.served_clients.proofs.client_seats.gates.take_seat.Goals as goal

pub returns-clause-rules : goal.returns-clause-rules
returns-clause-rules g c =
    let before = stand g.L.Rule c.args.rules.items in
    c.told.ensures ∙ ap (λ l. told_each l before) (c.deref.ensures.value ∙ c.requires.newcomer.tellings)
    ∙ own_tellings_tell (found_at c.args.shared.now.gate) c.args.newcomer.client.name before
