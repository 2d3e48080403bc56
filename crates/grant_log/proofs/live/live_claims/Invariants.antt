use Rattle.std.proofs.Common.{◌≡◌, ◌++◌, take}
use Rattle.rail_types.specs.Timetables.{base_claims, timetable_of}
use Rattle.grant_log.specs.Live.{live_from}
use Rattle.grant_log.proofs.live.live_claims.Given as goal

abbrev pub invariant-loop-at : goal.invariant-loop-at
invariant-loop-at l =
    l.live.items ≡ base_claims (timetable_of l.net l.base) ++ live_from (timetable_of l.net l.base) l.entries 0 (take l.at l.entries)
