use Rattle.std.proofs.Common.{List, refl, subst, sym, ℕ, ◌≡◌}
use Rattle.book_gate.specs.Passes.{view}
use Rattle.admission_rules.specs.Ruled.{Ruled, stand}
use Rattle.rail_types.specs.Timetables.{Timetable}
use Rattle.client_lines.specs.declared.reply_texts.replies.Reply.{Reply}
use Rattle.ask_turns.specs.Turns.{Sight, timetable_at}
use Rattle.line_answers.specs.Answers.{Caller}
use Rattle.line_answers.specs.Callers.{caller_of}
use Rattle.line_answers.specs.Calls.{AnswersBetween}
use Rattle.line_answers.specs.Proved.{ProvedOr}
use Rattle.line_answers.specs.Granting.{IsGranted}
use Rattle.line_answers.specs.Rules.{IsReadAs, told_by}
use Rattle.line_answers.specs.Tells.{fault_reply}
use Rattle.line_answers.proofs.Granting.{fault_grants, unhindered}
use Rattle.line_answers.proofs.Rows.{unread_line}
use Rattle.line_answers.proofs.Told.{fault_adds, read_as, untold_by}
use Rattle.line_answers.proofs.Proved.{shows_fault}
use Rattle.line_answers.proofs.answers.answer_bytes.Goals as goal

pub returns-in-Ok-clause-answers : goal.returns-in-Ok-clause-answers
returns-in-Ok-clause-answers g c =
    c.answer_ruled.ensures.answers c.args.line.now.bytes.now
    (read_as c.args.shared.now.known c.args.line.now.bytes.now c.in-Ok.said c.in-Ok.ensures.spelled c.in-Ok.ensures.read c.in-Ok.ensures.refused)

pub returns-in-Ok-clause-told : goal.returns-in-Ok-clause-told
returns-in-Ok-clause-told g c =
    c.answer_ruled.ensures.told c.args.line.now.bytes.now
    (read_as c.args.shared.now.known c.args.line.now.bytes.now c.in-Ok.said c.in-Ok.ensures.spelled c.in-Ok.ensures.read c.in-Ok.ensures.refused)

pub returns-in-Err-clause-answers : goal.returns-in-Err-clause-answers
returns-in-Err-clause-answers g c =
    let rules : List Ruled = stand g.L.Rule c.args.rules.now in
    let caller : Caller = caller_of c.args.shared.now rules c.args.guest.now.client.name c.args.line.now.number in
    let v : Sight = view c.args.guest.now.pass in
    subst (λ (r : Reply). AnswersBetween caller c.args.line.now.bytes.now r v v) (sym c.unread.ensures)
    (unread_line caller c.args.line.now.bytes.now v c.in-Err.fault c.in-Err.ensures.wrong)

pub returns-in-Err-clause-told : goal.returns-in-Err-clause-told
returns-in-Err-clause-told g c =
    let rules : List Ruled = stand g.L.Rule c.args.rules.now in
    let v : Sight = view c.args.guest.now.pass in
    subst (λ (r : Reply). rules ≡ told_by v.seen r rules) (sym c.unread.ensures)
    (sym (untold_by v.seen (fault_reply c.in-Err.fault) (fault_adds c.in-Err.fault) rules))

pub returns-in-Ok-clause-shown : goal.returns-in-Ok-clause-shown
returns-in-Ok-clause-shown g c =
    c.answer_ruled.ensures.shown c.args.line.now.bytes.now
    (read_as c.args.shared.now.known c.args.line.now.bytes.now c.in-Ok.said c.in-Ok.ensures.spelled c.in-Ok.ensures.read c.in-Ok.ensures.refused)

pub returns-in-Err-clause-shown : goal.returns-in-Err-clause-shown
returns-in-Err-clause-shown g c wanted =
    let v : Sight = view c.args.guest.now.pass in
    let timetable : Timetable = timetable_at c.args.shared.now.gate in
    let text : List ℕ = c.args.proof.now.held in
    subst (λ (r : Reply). ProvedOr (Unit {0}) c.args.shared.now.known timetable c.args.line.now.bytes.now r text v v) (sym c.unread.ensures)
    (shows_fault c.args.shared.now.known timetable c.args.line.now.bytes.now c.in-Err.fault text v v)

pub returns-in-Ok-clause-granted : goal.returns-in-Ok-clause-granted
returns-in-Ok-clause-granted g c answers said spelled unhindered_so =
    let rules : List Ruled = stand g.L.Rule c.args.rules.now in
    let caller : Caller = caller_of c.args.shared.now rules c.args.guest.now.client.name c.args.line.now.number in
    let read : IsReadAs caller.known c.args.line.now.bytes.now c.in-Ok.said =
    read_as c.args.shared.now.known c.args.line.now.bytes.now c.in-Ok.said c.in-Ok.ensures.spelled c.in-Ok.ensures.read c.in-Ok.ensures.refused in
    let same : said ≡ c.in-Ok.said = read.only said spelled in
    unhindered caller c.args.line.now.bytes.now said (subst (IsReadAs caller.known c.args.line.now.bytes.now) (sym same) read)
    c.answer_ruled.result (view c.args.guest.now.pass) (view c.answer_ruled.new.guest.pass) answers unhindered_so

pub returns-in-Err-clause-granted : goal.returns-in-Err-clause-granted
returns-in-Err-clause-granted g c answers said spelled unhindered_so =
    subst IsGranted (sym c.unread.ensures)
    (fault_grants c.in-Err.fault said (c.in-Err.ensures.read said spelled))

pub returns-in-Ok-clause-ready : goal.returns-in-Ok-clause-ready
returns-in-Ok-clause-ready g c = c.answer_ruled.ensures.ready

pub returns-in-Ok-clause-budget : goal.returns-in-Ok-clause-budget
returns-in-Ok-clause-budget g c = c.answer_ruled.ensures.budget

pub returns-in-Ok-clause-name : goal.returns-in-Ok-clause-name
returns-in-Ok-clause-name g c = c.answer_ruled.ensures.name

pub returns-in-Ok-clause-proves : goal.returns-in-Ok-clause-proves
returns-in-Ok-clause-proves g c = c.answer_ruled.ensures.proves

pub returns-in-Ok-clause-knows : goal.returns-in-Ok-clause-knows
returns-in-Ok-clause-knows g c = c.answer_ruled.ensures.knows

pub returns-in-Ok-clause-held : goal.returns-in-Ok-clause-held
returns-in-Ok-clause-held g c = c.answer_ruled.ensures.held

pub returns-in-Ok-clause-room : goal.returns-in-Ok-clause-room
returns-in-Ok-clause-room g c = c.answer_ruled.ensures.room

pub returns-in-Err-clause-ready : goal.returns-in-Err-clause-ready
returns-in-Err-clause-ready g c = c.requires.ready

pub returns-in-Err-clause-knows : goal.returns-in-Err-clause-knows
returns-in-Err-clause-knows g c = c.requires.knows

pub returns-in-Err-clause-name : goal.returns-in-Err-clause-name
returns-in-Err-clause-name g c = refl

pub returns-in-Err-clause-proves : goal.returns-in-Err-clause-proves
returns-in-Err-clause-proves g c = refl

pub returns-in-Err-clause-held : goal.returns-in-Err-clause-held
returns-in-Err-clause-held g c = refl

pub answer_ruled-requires-clause-ready : goal.answer_ruled-requires-clause-ready
answer_ruled-requires-clause-ready g c = c.requires.ready

pub answer_ruled-requires-clause-budget : goal.answer_ruled-requires-clause-budget
answer_ruled-requires-clause-budget g c = c.requires.budget

pub answer_ruled-requires-clause-knows : goal.answer_ruled-requires-clause-knows
answer_ruled-requires-clause-knows g c = c.requires.knows

pub answer_ruled-requires-clause-name : goal.answer_ruled-requires-clause-name
answer_ruled-requires-clause-name g c = c.requires.name

pub answer_ruled-requires-clause-shared : goal.answer_ruled-requires-clause-shared
answer_ruled-requires-clause-shared g c = c.requires.shared

pub answer_ruled-requires-clause-spare : goal.answer_ruled-requires-clause-spare
answer_ruled-requires-clause-spare g c = c.requires.spare
