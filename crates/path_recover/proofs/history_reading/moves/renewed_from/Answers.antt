use Rattle.std.proofs.Common.{List, ℕ, subst}
use Rattle.path_recover.specs.Files.{IsFound}
use Rattle.path_recover.proofs.Renewed.{is-renewed}
use Rattle.path_recover.proofs.history_reading.moves.renewed_from.Goals as goal

pub returns-in-Ok-clause-moved : goal.returns-in-Ok-clause-moved
returns-in-Ok-clause-moved c =
    let timetable = c.args.empty.timetable in
    let network = c.args.network.now in
    let base = c.args.base.now in
    let found = c.in_ok-gate.ensures.found in
    is-renewed timetable network base c.args.file.items c.in-Ok.bytes.items found.0 c.in_ok-gate.gate c.in_ok-gate.count c.told-network c.told-base (subst (λ (file : List ℕ). IsFound timetable 1 network base file found.0 c.in_ok-gate.gate) c.deref.ensures.value found.1) c.in-Ok.ensures found.2
