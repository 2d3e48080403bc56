use Rattle.std.proofs.Common.{◌∙◌, drop, arith, subst}
use Rattle.rail_types.specs.Timetables.{Timetable}
use Rattle.check_command.specs.Counts.{AreCounted}
use Rattle.check_command.specs.Replays.{entries_of}
use Rattle.check_command.proofs.Counting.{good_more, proof_within}
use Rattle.check_command.proofs.Judgement.{begins_same}
use Rattle.check_command.proofs.Replaying.{legal_same}
use Rattle.check_command.proofs.checks.check_all.Goals as goal

pub check_first-requires-clause-legal : goal.check_first-requires-clause-legal
check_first-requires-clause-legal c =
    legal_same c.args.replay.now.history.timetable c.loop-at.replay.history.timetable (entries_of c.args.replay.now) (entries_of c.loop-at.replay) c.loop-at.invariant.timetable c.loop-at.invariant.all c.requires.legal

pub loop-at-preserved : goal.loop-at-preserved
loop-at-preserved c =
    let known = c.args.known.now in
    let timetable = c.args.replay.now.history.timetable in
    let entries = entries_of c.args.replay.now in
    let bytes = c.args.bytes.now in
    let at = c.loop-at.at in
    let begins = begins_same known timetable c.loop-at.replay.history.timetable entries (entries_of c.loop-at.replay) c.split_at.result.1.now (drop at bytes) c.in-Ok.count c.loop-at.invariant.timetable c.loop-at.invariant.all c.split_at.ensures.back c.in-Ok.ensures.good in
    let within = proof_within known timetable entries bytes at c.in-Ok.count c.loop-at.invariant.within begins in
    record {
      timetable = c.in-Ok.ensures.timetable ∙ c.loop-at.invariant.timetable;
      all = c.in-Ok.ensures.all ∙ c.loop-at.invariant.all;
      up = c.in-Ok.ensures.up;
      counts = subst (λ (t : Timetable). AreCounted t.net c.check_first.new.counts.kept.items) c.loop-at.invariant.timetable c.in-Ok.ensures.counts;
      within = within.1;
      few = omega (arith, within.0, c.loop-at.invariant.few);
      good = good_more known timetable entries bytes at c.in-Ok.count c.loop-at.position c.loop-at.invariant.within c.loop-at.invariant.good begins;
    }
