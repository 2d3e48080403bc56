use Rattle.std.proofs.Common.{subst, arith}
use Rattle.check_command.specs.Replays.{entries_of}
use Rattle.check_command.specs.declared.judging.Judged.{Judged}
use Rattle.check_command.proofs.Judgement.{IsJudgedAt, begins_well, failing, judged_at, too_late, too_wide}
use Rattle.check_command.proofs.Within.{request_within}
use Rattle.check_command.proofs.checks.check_first.Goals as goal

pub returns-in-Err-NotUnderstood-clause-refuted : goal.returns-in-Err-NotUnderstood-clause-refuted
returns-in-Err-NotUnderstood-clause-refuted c =
    let none = rw c.in-Err-NotUnderstood.field-0-is at c.in-Err-NotUnderstood.ensures in
    record { some = c.requires.some; none = λ proof begins past. none proof begins.rest begins.told begins.parts }

pub returns-then-proof-front-clause-refuted : goal.returns-then-proof-front-clause-refuted
returns-then-proof-front-clause-refuted c =
    too_late c.args.known.now c.args.replay.now.history.timetable (entries_of c.args.replay.now) c.args.text.now c.in-Ok.read.0 c.in-Ok.read.1 c.in-Ok.ensures c.proofs_are_read_once.ensures c.requires.some
    (omega (arith, c.requires.front, c.if-proof-front.true))

pub judge-requires-clause-request : goal.judge-requires-clause-request
judge-requires-clause-request c = request_within c.args.known.now c.in-Ok.read.0.request c.requires.sound c.in-Ok.ensures.told.request

pub returns-in-Good-clause-good : goal.returns-in-Good-clause-good
returns-in-Good-clause-good c =
    let entries = entries_of c.args.replay.now in
    let timetable = c.args.replay.now.history.timetable in
    let is = judged_at timetable entries c.go_to.new.replay c.in-Ok.read.0 c.net-2.result.now c.settings-settings.result.now c.in_ok-judge.field-0 c.in_ok-go_to.ensures.timetable c.in_ok-go_to.ensures.all c.in_ok-go_to.ensures.front c.in_ok-go_to.ensures.up c.net-2.ensures.net c.settings-settings.ensures.settings c.in_ok-judge.ensures.judged in
    begins_well c.args.known.now timetable entries c.args.text.now c.in-Ok.read.0 c.in-Ok.read.1 c.in-Ok.ensures (omega (arith, c.requires.front, c.if-proof-front.false))
    (subst (λ (judged : Judged). IsJudgedAt timetable entries c.in-Ok.read.0 judged) c.in-Good.is is)

pub returns-in-Wide-clause-refuted : goal.returns-in-Wide-clause-refuted
returns-in-Wide-clause-refuted c =
    let entries = entries_of c.args.replay.now in
    let timetable = c.args.replay.now.history.timetable in
    let is = judged_at timetable entries c.go_to.new.replay c.in-Ok.read.0 c.net-2.result.now c.settings-settings.result.now c.in_ok-judge.field-0 c.in_ok-go_to.ensures.timetable c.in_ok-go_to.ensures.all c.in_ok-go_to.ensures.front c.in_ok-go_to.ensures.up c.net-2.ensures.net c.settings-settings.ensures.settings c.in_ok-judge.ensures.judged in
    too_wide c.args.known.now timetable entries c.args.text.now c.in-Ok.read.0 c.in-Ok.read.1 c.in-Ok.ensures (omega (arith, c.requires.front, c.if-proof-front.false))
    (subst (λ (judged : Judged). IsJudgedAt timetable entries c.in-Ok.read.0 judged) c.in-Wide.is is)

pub returns-clause-refuted : goal.returns-clause-refuted
returns-clause-refuted c =
    let entries = entries_of c.args.replay.now in
    let timetable = c.args.replay.now.history.timetable in
    let is = judged_at timetable entries c.go_to.new.replay c.in-Ok.read.0 c.net-2.result.now c.settings-settings.result.now c.in_ok-judge.field-0 c.in_ok-go_to.ensures.timetable c.in_ok-go_to.ensures.all c.in_ok-go_to.ensures.front c.in_ok-go_to.ensures.up c.net-2.ensures.net c.settings-settings.ensures.settings c.in_ok-judge.ensures.judged in
    failing c.args.known.now timetable entries c.args.text.now c.in-Ok.read.0 c.in-Ok.read.1 c.in-Ok.ensures (omega (arith, c.requires.front, c.if-proof-front.false))
    (subst (λ (judged : Judged). IsJudgedAt timetable entries c.in-Ok.read.0 judged) c.in-Fails.is is)
