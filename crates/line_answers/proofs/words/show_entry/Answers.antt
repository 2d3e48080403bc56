use Rattle.std.proofs.Common.{◌⊎◌, Some, refl, sym, ◌∙◌, subst}
use Rattle.book_gate.specs.Passes.{turns_left, view}
use Rattle.client_lines.specs.declared.asks.Line.{Line}
use Rattle.client_lines.specs.declared.asks.Ask.TheVariants as asks
use Rattle.client_lines.specs.declared.reply_texts.replies.Reply.{Reply}
use Rattle.ask_turns.specs.Told.{IsStanding}
use Rattle.ask_turns.specs.Turns.{Sight}
use Rattle.line_answers.specs.Answers.{Caller}
use Rattle.line_answers.specs.Callers.{AnswersLine, caller_of}
use Rattle.line_answers.proofs.Rows.{halt_short, halted_line, missing_line, past_end, shown_line}
use Rattle.client_lines.specs.Rooms.{IsBehindEntry}
use Rattle.line_answers.specs.Tells.{AddsNothing}
use Rattle.line_answers.proofs.Taken.{one_taken}
use Rattle.line_answers.proofs.words.show_entry.Goals as goal

pub returns-in-Ok-Some-clause-answers : goal.returns-in-Ok-Some-clause-answers
returns-in-Ok-Some-clause-answers g c rules allowed =
    let caller : Caller = caller_of c.args.shared.now rules c.args.client.now.name c.args.line_number in
    let line : Line = record { after = c.args.after; ask = asks.Show c.args.at } in
    let v : Sight = view c.args.pass.now in let w : Sight = view c.show.new.pass in
    let shows : IsStanding w.found.list c.args.at (Some c.in-Ok-Some.standing) =
    subst (IsStanding w.found.list c.args.at) c.in-Ok-Some.field-0-is c.in-Ok-Some.ensures.shows in
    shown_line caller line v w c.in-Ok-Some.ensures.looks c.in-Ok-Some.ensures.reached c.front.result
    (c.front.ensures ∙ c.in-Ok-Some.ensures.copy.front) c.args.at c.in-Ok-Some.standing.entry
    c.in-Ok-Some.standing.freed_by refl shows.0 shows.1

pub returns-in-Ok-None-clause-answers : goal.returns-in-Ok-None-clause-answers
returns-in-Ok-None-clause-answers g c rules allowed =
    let caller : Caller = caller_of c.args.shared.now rules c.args.client.now.name c.args.line_number in
    let line : Line = record { after = c.args.after; ask = asks.Show c.args.at } in
    let v : Sight = view c.args.pass.now in let w : Sight = view c.show.new.pass in
    missing_line caller line v w c.in-Ok-None.ensures.looks c.in-Ok-None.ensures.reached
    c.front-in-Ok-None.result (c.front-in-Ok-None.ensures ∙ c.in-Ok-None.ensures.copy.front) c.args.at refl
    (past_end w.found.list c.args.at
    (subst (IsStanding w.found.list c.args.at) c.in-Ok-None.field-0-is c.in-Ok-None.ensures.shows))

pub returns-in-Err-clause-answers : goal.returns-in-Err-clause-answers
returns-in-Err-clause-answers g c rules allowed =
    let caller : Caller = caller_of c.args.shared.now rules c.args.client.now.name c.args.line_number in
    let line : Line = record { after = c.args.after; ask = asks.Show c.args.at } in
    let v : Sight = view c.args.pass.now in let w : Sight = view c.show.new.pass in
    subst (λ (r : Reply). AnswersLine caller line r v w) (sym c.halted.ensures)
    (halted_line caller line v w c.in-Err.halt c.in-Err.ensures.halted)

pub returns-in-Ok-Some-clause-ready : goal.returns-in-Ok-Some-clause-ready
returns-in-Ok-Some-clause-ready g c = c.in-Ok-Some.ensures.ready

pub returns-in-Ok-Some-clause-name : goal.returns-in-Ok-Some-clause-name
returns-in-Ok-Some-clause-name g c = c.in-Ok-Some.ensures.name

pub returns-in-Ok-Some-clause-knows : goal.returns-in-Ok-Some-clause-knows
returns-in-Ok-Some-clause-knows g c = c.in-Ok-Some.ensures.knows

pub returns-in-Ok-Some-clause-budget : goal.returns-in-Ok-Some-clause-budget
returns-in-Ok-Some-clause-budget g c = one_taken (turns_left c.args.pass.now) (turns_left c.show.new.pass) c.in-Ok-Some.ensures.budget

pub returns-in-Ok-None-clause-ready : goal.returns-in-Ok-None-clause-ready
returns-in-Ok-None-clause-ready g c = c.in-Ok-None.ensures.ready

pub returns-in-Ok-None-clause-name : goal.returns-in-Ok-None-clause-name
returns-in-Ok-None-clause-name g c = c.in-Ok-None.ensures.name

pub returns-in-Ok-None-clause-knows : goal.returns-in-Ok-None-clause-knows
returns-in-Ok-None-clause-knows g c = c.in-Ok-None.ensures.knows

pub returns-in-Ok-None-clause-budget : goal.returns-in-Ok-None-clause-budget
returns-in-Ok-None-clause-budget g c = one_taken (turns_left c.args.pass.now) (turns_left c.show.new.pass) c.in-Ok-None.ensures.budget

pub returns-in-Err-clause-ready : goal.returns-in-Err-clause-ready
returns-in-Err-clause-ready g c = c.in-Err.ensures.ready

pub returns-in-Err-clause-name : goal.returns-in-Err-clause-name
returns-in-Err-clause-name g c = c.in-Err.ensures.name

pub returns-in-Err-clause-knows : goal.returns-in-Err-clause-knows
returns-in-Err-clause-knows g c = c.in-Err.ensures.knows

pub returns-in-Err-clause-budget : goal.returns-in-Err-clause-budget
returns-in-Err-clause-budget g c = one_taken (turns_left c.args.pass.now) (turns_left c.show.new.pass) c.in-Err.ensures.budget

pub returns-in-Err-clause-short : goal.returns-in-Err-clause-short
returns-in-Err-clause-short g c =
    subst (λ (r : Reply). IsBehindEntry 0 r ⊎ AddsNothing r) (sym c.halted.ensures) (halt_short c.in-Err.halt)

pub show-requires-clause-ready : goal.show-requires-clause-ready
show-requires-clause-ready g c = c.requires.ready

pub show-requires-clause-budget : goal.show-requires-clause-budget
show-requires-clause-budget g c = c.requires.budget

pub show-requires-clause-knows : goal.show-requires-clause-knows
show-requires-clause-knows g c = c.requires.knows
