use Rattle.std.proofs.Common.{◌≡◌, ◌+◌, ◌++◌, take, ap, sym, ◌∙◌, append_assoc, arith}
use Rattle.rail_types.specs.Timetables.{base_claims, timetable_of}
use Rattle.grant_log.specs.Live.{live_from, live_of}
use Rattle.grant_log.proofs.Lives.{entry_at, live_from_more}
use Rattle.grant_log.proofs.live.live_claims.Goals as goal

pub loop-at-preserved : goal.loop-at-preserved
loop-at-preserved c =
    let timetable = timetable_of c.args.net.now c.args.base.now in
    let entries = c.args.entries.now in
    let here = entry_at entries c.loop-at.at c.loop-at-test.true in
    let number : 0 + c.loop-at.at ≡ c.loop-at.at = omega arith in
    let more = live_from_more timetable entries 0 c.loop-at.at entries here.0 here.1 ∙ ap (λ k. live_from timetable entries 0 (take c.loop-at.at entries) ++ live_of timetable entries k here.0) number in
    let planned = base_claims timetable in
    let own = live_of timetable entries c.loop-at.at here.0 in
    c.in_ok-push_live.ensures here.0 here.1
    ∙ (ap (λ live. live ++ own) c.loop-at.invariant
    ∙ (append_assoc planned (live_from timetable entries 0 (take c.loop-at.at entries)) own ∙ ap (λ live. planned ++ live) (sym more)))
