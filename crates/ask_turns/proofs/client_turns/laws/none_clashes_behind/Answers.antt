use Rattle.std.proofs.Common.{arith}
use Rattle.std.proofs.lemmas.Option.{slice_get_within}
use Rattle.ask_turns.proofs.client_turns.laws.none_clashes_behind.Goals as goal

pub returns : goal.returns
returns c timetable entries claims at last =
    let law = c.live_claims_are_unfreed.ensures.unfreed timetable entries last.clashes.0 at in
    let stands = law.0 last.clashes.1 in
    let within = slice_get_within entries at stands.0 stands.1 in
    let behind = last.behind in
    absurd (omega arith)
