use Rattle.std.proofs.Common.{refl, sym, ◌∙◌}
use Rattle.book_gate.specs.Passes.{view}
use Rattle.ask_turns.proofs.history_lemmas.Places.{new_is}
use Rattle.rail_types.specs.declared.entries.Deed.TheVariants.{Free}
use Rattle.ask_turns.specs.Turns.{Sight}
use Rattle.line_answers.specs.Answers.{Caller, entry_of}
use Rattle.line_answers.specs.Callers.{caller_of}
use Rattle.line_answers.proofs.Denied.{denied_line}
use mathlib.Core.Logic.{inr}
use Rattle.line_answers.proofs.rules.deny_deed.Goals as goal

pub returns-in-Ok-clause-answers : goal.returns-in-Ok-clause-answers
returns-in-Ok-clause-answers g c line sent rules denied =
    let caller : Caller = caller_of c.args.shared.now rules c.args.client.now.name c.args.sent.line in
    let v : Sight = view c.args.pass.now in let w : Sight = view c.check_number.new.pass in
    denied_line caller line c.args.sent.number sent.numbered v w c.in-Ok.ensures.looks
    (λ after is. c.in-Ok.ensures.reached after (sym sent.behind ∙ is))
    c.front.result (c.front.ensures ∙ c.in-Ok.ensures.copy.front) c.args.rule sent.may
    (new_is w.found.list (entry_of caller c.args.sent.number (Free 0)) c.in-Ok.ensures.unknown) denied

pub returns-in-Err-clause-answers : goal.returns-in-Err-clause-answers
returns-in-Err-clause-answers g c line sent rules denied =
    c.in-Err.ensures.answers line sent.behind sent.numbered sent.asked rules

pub returns-in-Ok-clause-ready : goal.returns-in-Ok-clause-ready
returns-in-Ok-clause-ready g c = c.in-Ok.ensures.ready

pub returns-in-Ok-clause-budget : goal.returns-in-Ok-clause-budget
returns-in-Ok-clause-budget g c = c.in-Ok.ensures.budget

pub returns-in-Ok-clause-name : goal.returns-in-Ok-clause-name
returns-in-Ok-clause-name g c = c.in-Ok.ensures.name

pub returns-in-Ok-clause-knows : goal.returns-in-Ok-clause-knows
returns-in-Ok-clause-knows g c = c.in-Ok.ensures.knows

pub returns-in-Ok-clause-none : goal.returns-in-Ok-clause-none
returns-in-Ok-clause-none g c = refl

pub returns-in-Ok-clause-short : goal.returns-in-Ok-clause-short
returns-in-Ok-clause-short g c = inr tt

pub returns-in-Err-clause-ready : goal.returns-in-Err-clause-ready
returns-in-Err-clause-ready g c = c.in-Err.ensures.ready

pub returns-in-Err-clause-budget : goal.returns-in-Err-clause-budget
returns-in-Err-clause-budget g c = c.in-Err.ensures.budget

pub returns-in-Err-clause-name : goal.returns-in-Err-clause-name
returns-in-Err-clause-name g c = c.in-Err.ensures.name

pub returns-in-Err-clause-knows : goal.returns-in-Err-clause-knows
returns-in-Err-clause-knows g c = c.in-Err.ensures.knows

pub returns-in-Err-clause-none : goal.returns-in-Err-clause-none
returns-in-Err-clause-none g c = c.in-Err.ensures.none

pub returns-in-Err-clause-short : goal.returns-in-Err-clause-short
returns-in-Err-clause-short g c = c.in-Err.ensures.short

pub check_number-requires-clause-ready : goal.check_number-requires-clause-ready
check_number-requires-clause-ready g c = c.requires.ready

pub check_number-requires-clause-budget : goal.check_number-requires-clause-budget
check_number-requires-clause-budget g c = c.requires.budget

pub check_number-requires-clause-knows : goal.check_number-requires-clause-knows
check_number-requires-clause-knows g c = c.requires.knows

pub check_number-requires-clause-name : goal.check_number-requires-clause-name
check_number-requires-clause-name g c = c.requires.name
