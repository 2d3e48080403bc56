use Rattle.std.proofs.Common.{get_or}
use Rattle.std.proofs.lemmas.Option.{slice_get-get_or}
use Rattle.rail_types.specs.Timetables.{timetable_of}
use Rattle.grant_log.proofs.histories.History.live.Goals as goal

pub live_claims-requires : goal.live_claims-requires
live_claims-requires c =
    let timetable = timetable_of c.self.inside.net c.self.inside.base in
    let entries = c.self.inside.entries.items in
    let laws = c.claims_are_on_the_network.ensures in
    let kept = c.grants_keep_their_requests.ensures.requests in
    rw c.deref.ensures.value (λ k entry within.
    let here = slice_get-get_or entries k entry within in
    let one = get_or entries k entry in
    laws.stairway timetable one c.self.invariant.planned (c.self.invariant.legal k one here).in_range (kept timetable entries k one c.self.invariant.legal here))
