use Rattle.std.proofs.Common.{ℕ, List, sym, ◌∙◌, subst, refl, arith}
use Rattle.book_gate.specs.Passes.{view}
use Rattle.client_lines.specs.declared.asks.Line.{Line}
use Rattle.client_lines.specs.declared.asks.Ask.TheVariants as asks
use Rattle.admission_rules.specs.Ruled.{Ruled, stand}
use Rattle.ask_turns.specs.Turns.{Sight}
use Rattle.line_answers.specs.Answers.{Caller}
use Rattle.line_answers.specs.Callers.{AnswersLine, caller_of}
use Rattle.line_answers.proofs.Behind.{look_first, some_stand}
use Rattle.line_answers.proofs.Denied.{unknown_line}
use Rattle.line_answers.proofs.Told.{untold_by}
use mathlib.Core.Logic.{inr}
use Rattle.rail_types.specs.Limits.{IsClientName}
use Rattle.line_answers.proofs.rules.free_ruled.Goals as goal

pub returns-then-front-freed-clause-answers : goal.returns-then-front-freed-clause-answers
returns-then-front-freed-clause-answers g c =
    let rules : List Ruled = stand g.L.Rule c.args.rules.now in
    let caller : Caller = caller_of c.args.shared.now rules c.args.client.now.name c.args.sent.line in
    let v : Sight = view c.args.pass.now in let w : Sight = view c.check_number-new.new.pass in
    unknown_line caller c.args.sent.after c.args.sent.number c.args.freed v w c.in-Ok.ensures.looks c.in-Ok.ensures.reached
    c.front-front.result (c.front-front.ensures ∙ c.in-Ok.ensures.copy.front) c.in-Ok.ensures.unknown
    (let here = c.front-front.ensures ∙ c.in-Ok.ensures.copy.front in let few = c.if-front-freed.true in omega arith)

pub returns-else-front-freed-clause-answers : goal.returns-else-front-freed-clause-answers
returns-else-front-freed-clause-answers g c =
    let rules : List Ruled = stand g.L.Rule c.args.rules.now in
    let line : Line = record { after = c.args.sent.after; ask = asks.Free c.args.sent.number c.args.freed } in
    let caller : Caller = caller_of c.args.shared.now rules c.args.client.now.name c.args.sent.line in
    let v : Sight = view c.args.pass.now in let u : Sight = view c.check_number-new.new.pass in
    let w : Sight = view c.free_found.new.pass in
    let inner = subst (λ (name : List ℕ). AnswersLine (caller_of c.args.shared.now rules name c.args.sent.line) line c.free_found.result u w) c.in-Ok.ensures.name c.free_found.ensures.answers in
    look_first caller c.args.sent.after c.args.sent.number c.args.freed (some_stand g.L.Rule c.args.rules.now c.requires.some) v u w c.in-Ok.ensures.looks c.in-Ok.ensures.reached
    c.free_found.result inner

pub returns-in-Err-clause-answers : goal.returns-in-Err-clause-answers
returns-in-Err-clause-answers g c =
    let line : Line = record { after = c.args.sent.after; ask = asks.Free c.args.sent.number c.args.freed } in
    c.in-Err.ensures.answers line refl refl refl (stand g.L.Rule c.args.rules.now)

pub returns-in-Err-clause-told : goal.returns-in-Err-clause-told
returns-in-Err-clause-told g c bytes read =
    let rules : List Ruled = stand g.L.Rule c.args.rules.now in let w : Sight = view c.check_number-new.new.pass in
    sym (untold_by w.seen c.in-Err.told c.in-Err.ensures.none rules)

pub returns-then-front-freed-clause-ready : goal.returns-then-front-freed-clause-ready
returns-then-front-freed-clause-ready g c = c.in-Ok.ensures.ready

pub returns-then-front-freed-clause-name : goal.returns-then-front-freed-clause-name
returns-then-front-freed-clause-name g c = c.in-Ok.ensures.name

pub returns-then-front-freed-clause-knows : goal.returns-then-front-freed-clause-knows
returns-then-front-freed-clause-knows g c = c.in-Ok.ensures.knows

pub returns-then-front-freed-clause-short : goal.returns-then-front-freed-clause-short
returns-then-front-freed-clause-short g c = inr tt

pub returns-then-front-freed-clause-told : goal.returns-then-front-freed-clause-told
returns-then-front-freed-clause-told g c bytes read = refl

pub returns-else-front-freed-clause-ready : goal.returns-else-front-freed-clause-ready
returns-else-front-freed-clause-ready g c = c.free_found.ensures.ready

pub returns-else-front-freed-clause-knows : goal.returns-else-front-freed-clause-knows
returns-else-front-freed-clause-knows g c = c.free_found.ensures.knows

pub returns-else-front-freed-clause-told : goal.returns-else-front-freed-clause-told
returns-else-front-freed-clause-told g c = c.free_found.ensures.told

pub returns-else-front-freed-clause-short : goal.returns-else-front-freed-clause-short
returns-else-front-freed-clause-short g c = c.free_found.ensures.short

pub returns-else-front-freed-clause-name : goal.returns-else-front-freed-clause-name
returns-else-front-freed-clause-name g c = c.free_found.ensures.name ∙ c.in-Ok.ensures.name

pub returns-in-Err-clause-ready : goal.returns-in-Err-clause-ready
returns-in-Err-clause-ready g c = c.in-Err.ensures.ready

pub returns-in-Err-clause-name : goal.returns-in-Err-clause-name
returns-in-Err-clause-name g c = c.in-Err.ensures.name

pub returns-in-Err-clause-knows : goal.returns-in-Err-clause-knows
returns-in-Err-clause-knows g c = c.in-Err.ensures.knows

pub returns-in-Err-clause-short : goal.returns-in-Err-clause-short
returns-in-Err-clause-short g c = c.in-Err.ensures.short

pub check_number-new-requires-clause-ready : goal.check_number-new-requires-clause-ready
check_number-new-requires-clause-ready g c = c.requires.ready

pub check_number-new-requires-clause-knows : goal.check_number-new-requires-clause-knows
check_number-new-requires-clause-knows g c = c.requires.knows

pub check_number-new-requires-clause-name : goal.check_number-new-requires-clause-name
check_number-new-requires-clause-name g c = c.requires.name

pub free_found-requires-clause-ready : goal.free_found-requires-clause-ready
free_found-requires-clause-ready g c = c.in-Ok.ensures.ready

pub free_found-requires-clause-knows : goal.free_found-requires-clause-knows
free_found-requires-clause-knows g c = c.in-Ok.ensures.knows

pub free_found-requires-clause-name : goal.free_found-requires-clause-name
free_found-requires-clause-name g c = subst IsClientName (sym c.in-Ok.ensures.name) c.requires.name

pub free_found-requires-clause-within : goal.free_found-requires-clause-within
free_found-requires-clause-within g c = c.requires.within

pub free_found-requires-clause-some : goal.free_found-requires-clause-some
free_found-requires-clause-some g c = c.requires.some
