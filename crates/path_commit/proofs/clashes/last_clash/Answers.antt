use Rattle.std.proofs.Common.{◌+◌, sym, subst, arith}
use Rattle.grant_log.specs.Live.{live_claims}
use Rattle.path_commit.proofs.Standing.{LastBelow, clash_within, last_here, last_none, last_not, last_of_all}
use Rattle.path_commit.proofs.clashes.last_clash.Goals.{then-branch, else-branch}
use Rattle.path_commit.proofs.clashes.last_clash.Goals as goal

pub loop-at-init : goal.loop-at-init
loop-at-init c = last_none (live_claims c.args.history.now.timetable c.args.history.now.entries) c.args.claims.now c.args.from

pub loop-at-preserved : goal.loop-at-preserved
loop-at-preserved c =
    let live = live_claims c.args.history.now.timetable c.args.history.now.entries in
    elim c.if-branch.branch [
      | then-branch w ↦ subst (LastBelow live c.args.claims.now c.args.from (c.loop-at.at + 1)) (sym w.last-is) (last_here live c.args.claims.now c.args.from c.loop-at.at c.loop-at.auto.at (c.in_ok-entry_clashes.ensures.0 w.if-branch.true))
      | else-branch w ↦ subst (LastBelow live c.args.claims.now c.args.from (c.loop-at.at + 1)) (sym w.last-is) (last_not live c.args.claims.now c.args.from c.loop-at.at c.loop-at.last (λ clash. let yes = c.in_ok-entry_clashes.ensures.1 clash in let no = w.if-branch.false in cc) c.loop-at.invariant)
    ]

pub returns : goal.returns
returns c =
    let t = c.args.history.now.timetable in
    let entries = c.args.history.now.entries in
    last_of_all (live_claims t entries) c.args.claims.now c.args.from c.loop-at.at c.loop-at.last (λ at clash. let within = clash_within t entries c.args.claims.now (λ claim k. c.live_claims_are_unfreed.ensures.unfreed t entries claim k) at clash in omega (arith, within, c.front-at-end.ensures.front, c.loop-at-test.false)) c.loop-at.invariant
