use Rattle.std.proofs.Common.{◌⊎◌, refl, sym, ◌∙◌, subst}
use Rattle.book_gate.specs.Passes.{turns_left, view}
use Rattle.client_lines.specs.declared.asks.Line.{Line}
use Rattle.client_lines.specs.declared.asks.Ask.TheVariants as asks
use Rattle.client_lines.specs.declared.reply_texts.replies.Reply.{Reply}
use Rattle.ask_turns.specs.Turns.{Sight}
use Rattle.line_answers.specs.Answers.{Caller}
use Rattle.line_answers.specs.Callers.{AnswersLine, caller_of}
use Rattle.line_answers.proofs.Rows.{front_line, halt_short, halted_line}
use Rattle.client_lines.specs.Rooms.{IsBehindEntry}
use Rattle.line_answers.specs.Tells.{AddsNothing}
use Rattle.line_answers.proofs.Taken.{one_taken}
use Rattle.line_answers.proofs.words.front.Goals as goal

pub returns-in-Ok-clause-answers : goal.returns-in-Ok-clause-answers
returns-in-Ok-clause-answers g c rules allowed =
    let caller : Caller = caller_of c.args.shared.now rules c.args.client.now.name c.args.line_number in
    let line : Line = record { after = c.args.after; ask = asks.Front } in
    let v : Sight = view c.args.pass.now in let w : Sight = view c.look.new.pass in
    front_line caller line v w c.in-Ok.ensures.looks c.in-Ok.ensures.reached c.front.result
    (c.front.ensures ∙ c.in-Ok.ensures.copy.front) refl

pub returns-in-Err-clause-answers : goal.returns-in-Err-clause-answers
returns-in-Err-clause-answers g c rules allowed =
    let caller : Caller = caller_of c.args.shared.now rules c.args.client.now.name c.args.line_number in
    let line : Line = record { after = c.args.after; ask = asks.Front } in
    let v : Sight = view c.args.pass.now in let w : Sight = view c.look.new.pass in
    subst (λ (r : Reply). AnswersLine caller line r v w) (sym c.halted.ensures)
    (halted_line caller line v w c.in-Err.halt c.in-Err.ensures.halted)

pub returns-in-Ok-clause-ready : goal.returns-in-Ok-clause-ready
returns-in-Ok-clause-ready g c = c.in-Ok.ensures.ready

pub returns-in-Ok-clause-name : goal.returns-in-Ok-clause-name
returns-in-Ok-clause-name g c = c.in-Ok.ensures.name

pub returns-in-Ok-clause-knows : goal.returns-in-Ok-clause-knows
returns-in-Ok-clause-knows g c = c.in-Ok.ensures.knows

pub returns-in-Ok-clause-budget : goal.returns-in-Ok-clause-budget
returns-in-Ok-clause-budget g c = one_taken (turns_left c.args.pass.now) (turns_left c.look.new.pass) c.in-Ok.ensures.budget

pub returns-in-Err-clause-ready : goal.returns-in-Err-clause-ready
returns-in-Err-clause-ready g c = c.in-Err.ensures.ready

pub returns-in-Err-clause-name : goal.returns-in-Err-clause-name
returns-in-Err-clause-name g c = c.in-Err.ensures.name

pub returns-in-Err-clause-knows : goal.returns-in-Err-clause-knows
returns-in-Err-clause-knows g c = c.in-Err.ensures.knows

pub returns-in-Err-clause-budget : goal.returns-in-Err-clause-budget
returns-in-Err-clause-budget g c = one_taken (turns_left c.args.pass.now) (turns_left c.look.new.pass) c.in-Err.ensures.budget

pub returns-in-Err-clause-short : goal.returns-in-Err-clause-short
returns-in-Err-clause-short g c =
    subst (λ (r : Reply). IsBehindEntry 0 r ⊎ AddsNothing r) (sym c.halted.ensures) (halt_short c.in-Err.halt)

pub look-requires-clause-ready : goal.look-requires-clause-ready
look-requires-clause-ready g c = c.requires.ready

pub look-requires-clause-budget : goal.look-requires-clause-budget
look-requires-clause-budget g c = c.requires.budget

pub look-requires-clause-knows : goal.look-requires-clause-knows
look-requires-clause-knows g c = c.requires.knows
