use Rattle.std.proofs.Common.{◌≡◌, ◌++◌, ℕ, Bool, IfOk, List, OnErr, sym, refl, ◌∙◌, subst, arith}
use Rattle.std.proofs.lemmas.List.Elements.{All-nil}
use Rattle.std.proofs.lemmas.Result.{IfOk-weaker}
use mathlib.Core.Logic.{⊎_elim}
use Rattle.book_gate.specs.Passes.{view}
use Rattle.admission_rules.specs.Ruled.{Ruled, stand}
use Rattle.client_lines.specs.Replies.{reply_text as text_of}
use Rattle.client_lines.specs.declared.reply_texts.replies.Reply.{Reply}
use Rattle.client_lines.specs.declared.reply_texts.replies.Reply.TheVariants as reply
use Rattle.ask_turns.specs.Turns.{Sight, timetable_at}
use Rattle.line_answers.specs.Answers.{Caller}
use Rattle.line_answers.specs.Callers.{caller_of}
use Rattle.line_answers.specs.Calls.{AnswersBetween, IsSettled}
use Rattle.line_answers.specs.Granting.{GrantsIfUnhindered}
use Rattle.line_answers.specs.Proved.{IsProvedBetween, kept_text}
use Rattle.line_answers.specs.Rules.{told_by}
use Rattle.line_answers.proofs.Calls.{untaken}
use Rattle.line_answers.proofs.Quiet.{both_ok, if_err, told_err, untold}
use Rattle.line_answers.proofs.Told.{none_added, untold_by}
use Rattle.line_answers.proofs.Proved.{keeps}
use Rattle.line_answers.proofs.answers.answer_one.Goals as goal

pub returns-in_err-reserve-clause-wanted : goal.returns-in_err-reserve-clause-wanted
returns-in_err-reserve-clause-wanted g c =
    let rules : List Ruled = stand g.L.Rule c.args.rules.now in
    let caller : Caller = caller_of c.args.shared.now rules c.args.guest.now.client.name c.args.line.now.number in
    let v : Sight = view c.args.guest.now.pass in
    if_err _ c.from_residual.result
    (untaken caller c.args.line.now.bytes.now reply.NoMemory v refl refl tt (All-nil IsSettled) tt)

-- ---- printed

pub returns-clause-answers : goal.returns-clause-answers
returns-clause-answers g c =
    let rules : List Ruled = stand g.L.Rule c.args.rules.now in
    let caller : Caller = caller_of c.args.shared.now rules c.args.guest.now.client.name c.args.line.now.number in
    let v : Sight = view c.args.guest.now.pass in let w : Sight = view c.answer_bytes-reply.new.guest.pass in
    IfOk-weaker c.print.result _ (λ (told : Reply). AnswersBetween caller c.args.line.now.bytes.now told v w)
    (λ told same. subst (λ (r : Reply). AnswersBetween caller c.args.line.now.bytes.now r v w) (sym same) c.answer_bytes-reply.ensures.answers)
    c.print.ensures.same

pub returns-clause-granted : goal.returns-clause-granted
returns-clause-granted g c =
    let rules : List Ruled = stand g.L.Rule c.args.rules.now in
    let caller : Caller = caller_of c.args.shared.now rules c.args.guest.now.client.name c.args.line.now.number in
    let v : Sight = view c.args.guest.now.pass in let w : Sight = view c.answer_bytes-reply.new.guest.pass in
    IfOk-weaker c.print.result _ (λ (told : Reply). GrantsIfUnhindered caller c.args.line.now.bytes.now told v w)
    (λ told same. subst (λ (r : Reply). GrantsIfUnhindered caller c.args.line.now.bytes.now r v w) (sym same) c.answer_bytes-reply.ensures.granted)
    c.print.ensures.same

pub returns-clause-proved : goal.returns-clause-proved
returns-clause-proved g c =
    let reply = c.answer_bytes-reply.result in let text : List ℕ = c.answer_bytes-reply.new.proof.held in
    let left : List ℕ = c.keep_proof.new.proof.held in
    let v : Sight = view c.args.guest.now.pass in let w : Sight = view c.answer_bytes-reply.new.guest.pass in
    let timetable = timetable_at c.args.shared.now.gate in
    let kept = keeps c.args.shared.now.known timetable c.args.line.now.bytes.now c.args.guest.now.proves
    reply text left v w c.answer_bytes-reply.ensures.shown
    (subst (λ (proves : Bool). left ≡ kept_text proves reply text) c.answer_bytes-reply.ensures.proves c.keep_proof.ensures) in
    both_ok c.print.result (λ (told : Reply). IsProvedBetween c.args.shared.now.known timetable c.args.guest.now.proves
    c.args.line.now.bytes.now told c.print.new.proof.held v w)
    (λ told same proved. subst (λ (r : Reply). IsProvedBetween c.args.shared.now.known timetable c.args.guest.now.proves
    c.args.line.now.bytes.now r c.print.new.proof.held v w) (sym same)
    (subst (λ (l : List ℕ). IsProvedBetween c.args.shared.now.known timetable c.args.guest.now.proves
    c.args.line.now.bytes.now reply l v w) (sym proved) kept))
    c.print.ensures.same c.print.ensures.proved

pub returns-clause-told : goal.returns-clause-told
returns-clause-told g c =
    let rules : List Ruled = stand g.L.Rule c.args.rules.now in
    let left : List Ruled = stand g.L.Rule c.answer_bytes-reply.new.rules in
    let w : Sight = view c.answer_bytes-reply.new.guest.pass in
    IfOk-weaker c.print.result _ (λ (told : Reply). left ≡ told_by w.seen told rules)
    (λ told same. subst (λ (r : Reply). left ≡ told_by w.seen r rules) (sym same) c.answer_bytes-reply.ensures.told)
    c.print.ensures.same

pub returns-clause-text : goal.returns-clause-text
returns-clause-text g c =
    subst (λ (l : List ℕ). IfOk c.print.result (λ told. c.print.new.text.held ≡ l ++ text_of told))
    (c.answer_bytes-reply.ensures.held ∙ c.in_ok-reserve.ensures.held) c.print.ensures.text

pub returns-clause-untold : goal.returns-clause-untold
returns-clause-untold g c =
    subst (λ (l : List ℕ). OnErr c.print.result (c.print.new.text.held ≡ l))
    (c.answer_bytes-reply.ensures.held ∙ c.in_ok-reserve.ensures.held) c.print.ensures.untold

pub returns-clause-unproved : goal.returns-clause-unproved
returns-clause-unproved g c = c.print.ensures.unproved

pub returns-clause-wanted : goal.returns-clause-wanted
returns-clause-wanted g c =
    let rules : List Ruled = stand g.L.Rule c.args.rules.now in
    let caller : Caller = caller_of c.args.shared.now rules c.args.guest.now.client.name c.args.line.now.number in
    let v : Sight = view c.args.guest.now.pass in let w : Sight = view c.answer_bytes-reply.new.guest.pass in
    let told = c.answer_bytes-reply.result in
    ⊎_elim
    (λ room.
    let few = c.replies_have_room.ensures room.0 told room.1 in
    let spare = room.2 in
    told_err (λ refused. AnswersBetween caller c.args.line.now.bytes.now reply.NoMemory v w) c.print.result
    (c.print.ensures.room (omega arith)))
    (λ adds. if_err (AnswersBetween caller c.args.line.now.bytes.now reply.NoMemory v w) c.print.result
    (untold caller c.args.line.now.bytes.now told v w adds c.answer_bytes-reply.ensures.answers))
    c.answer_bytes-reply.ensures.room

pub returns-clause-unruled : goal.returns-clause-unruled
returns-clause-unruled g c =
    let rules : List Ruled = stand g.L.Rule c.args.rules.now in
    let left : List Ruled = stand g.L.Rule c.answer_bytes-reply.new.rules in
    let w : Sight = view c.answer_bytes-reply.new.guest.pass in
    let told = c.answer_bytes-reply.result in
    ⊎_elim
    (λ room.
    let few = c.replies_have_room.ensures room.0 told room.1 in
    let spare = room.2 in
    told_err (λ refused. left ≡ rules) c.print.result (c.print.ensures.room (omega arith)))
    (λ adds. if_err (left ≡ rules) c.print.result
    (c.answer_bytes-reply.ensures.told ∙ untold_by w.seen told (none_added told adds) rules))
    c.answer_bytes-reply.ensures.room

pub returns-clause-ready : goal.returns-clause-ready
returns-clause-ready g c = c.answer_bytes-reply.ensures.ready

pub returns-clause-budget : goal.returns-clause-budget
returns-clause-budget g c = c.answer_bytes-reply.ensures.budget

pub returns-clause-name : goal.returns-clause-name
returns-clause-name g c = c.answer_bytes-reply.ensures.name

pub returns-clause-proves : goal.returns-clause-proves
returns-clause-proves g c = c.answer_bytes-reply.ensures.proves

pub returns-clause-knows : goal.returns-clause-knows
returns-clause-knows g c = c.answer_bytes-reply.ensures.knows

pub returns-in_err-reserve-clause-ready : goal.returns-in_err-reserve-clause-ready
returns-in_err-reserve-clause-ready g c = c.requires.ready

pub returns-in_err-reserve-clause-knows : goal.returns-in_err-reserve-clause-knows
returns-in_err-reserve-clause-knows g c = c.requires.knows

pub returns-in_err-reserve-clause-name : goal.returns-in_err-reserve-clause-name
returns-in_err-reserve-clause-name g c = refl

pub returns-in_err-reserve-clause-proves : goal.returns-in_err-reserve-clause-proves
returns-in_err-reserve-clause-proves g c = refl

pub answer_bytes-reply-requires-clause-ready : goal.answer_bytes-reply-requires-clause-ready
answer_bytes-reply-requires-clause-ready g c = c.requires.ready

pub answer_bytes-reply-requires-clause-budget : goal.answer_bytes-reply-requires-clause-budget
answer_bytes-reply-requires-clause-budget g c = c.requires.budget

pub answer_bytes-reply-requires-clause-knows : goal.answer_bytes-reply-requires-clause-knows
answer_bytes-reply-requires-clause-knows g c = c.requires.knows

pub answer_bytes-reply-requires-clause-shared : goal.answer_bytes-reply-requires-clause-shared
answer_bytes-reply-requires-clause-shared g c = c.requires.shared

pub answer_bytes-reply-requires-clause-name : goal.answer_bytes-reply-requires-clause-name
answer_bytes-reply-requires-clause-name g c = c.requires.name

pub answer_bytes-reply-requires-clause-line : goal.answer_bytes-reply-requires-clause-line
answer_bytes-reply-requires-clause-line g c = c.requires.line
