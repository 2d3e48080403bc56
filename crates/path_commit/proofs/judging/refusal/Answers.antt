use Rattle.std.proofs.Common.{subst}
use Rattle.grant_log.specs.Live.{live_claims}
use Rattle.grant_log.specs.Verdict.{verdict_on}
use Rattle.path_commit.specs.Answers.{IsTaken}
use Rattle.path_commit.specs.Clashes.{EntryClashesFrom, IsGreatest, IsLastClash, NoneClashesFrom}
use Rattle.path_commit.proofs.Standing.{is_last, is_no_last, taken_keeps}
use Rattle.path_commit.proofs.judging.refusal.Goals as goal

pub returns-in-Ok-Some-clause-told : goal.returns-in-Ok-Some-clause-told
returns-in-Ok-Some-clause-told c =
    let t = c.args.history.now.timetable in
    let entries = c.args.history.now.entries in
    let entry = c.args.entry.now in
    let taken : IsTaken (verdict_on t entries entry) = subst IsTaken c.requires.verdict (c.is_taken.ensures.0 c.if-not-is_taken.false) in
    let claims = c.requires.claims (taken_keeps t entries entry (verdict_on t entries entry) taken (c.verdicts_say_what_they_mean.ensures.says t entries entry)) in
    (taken, subst (λ l. IsLastClash (live_claims t entries) l c.args.searched c.in-Ok-Some.entry) claims (is_last (live_claims t entries) c.args.claims.now c.args.searched c.in-Ok-Some.entry (subst (IsGreatest (EntryClashesFrom (live_claims t entries) c.args.claims.now c.args.searched)) c.in-Ok-Some.field-0-is c.in-Ok-Some.ensures)))

pub returns-in-Ok-None-clause-told : goal.returns-in-Ok-None-clause-told
returns-in-Ok-None-clause-told c =
    let t = c.args.history.now.timetable in
    let entries = c.args.history.now.entries in
    let entry = c.args.entry.now in
    let taken : IsTaken (verdict_on t entries entry) = subst IsTaken c.requires.verdict (c.is_taken.ensures.0 c.if-not-is_taken.false) in
    let claims = c.requires.claims (taken_keeps t entries entry (verdict_on t entries entry) taken (c.verdicts_say_what_they_mean.ensures.says t entries entry)) in
    (c.requires.verdict, c.requires.stale, λ same. subst (λ l. NoneClashesFrom (live_claims t entries) l c.args.searched) claims (is_no_last (live_claims t entries) c.args.claims.now c.args.searched (subst (IsGreatest (EntryClashesFrom (live_claims t entries) c.args.claims.now c.args.searched)) c.in-Ok-None.field-0-is c.in-Ok-None.ensures)))
