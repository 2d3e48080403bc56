use Rattle.std.proofs.Common.{◌≡◌, ℕ, List, [], Option, length, ap, sym, ◌∙◌, subst, arith}
use Rattle.std.proofs.lemmas.Grind.{common_steps}
use Rattle.std.proofs.lemmas.List.{nil_from_length}
use Rattle.book_gate.specs.Passes.{view}
use Rattle.client_lines.specs.declared.asks.Ask.{Ask}
use Rattle.client_lines.specs.declared.asks.Ask.TheVariants as asks
use Rattle.admission_rules.specs.Ruled.{Ruled, denied_by, stand}
use Rattle.ask_turns.specs.Turns.{Sight}
use Rattle.line_answers.specs.Answers.{Caller}
use Rattle.line_answers.specs.Callers.{AnswersLine, caller_of}
use Rattle.line_answers.specs.Points.{added}
use Rattle.line_answers.specs.Proved.{ShowsLine}
use Rattle.line_answers.specs.Rules.{TellsLine, told_by, wished}
use Rattle.line_answers.proofs.Rooms.{short_room}
use Rattle.line_answers.proofs.Told.{none_denies, told_none}
use Rattle.line_answers.proofs.Proved.{unsought_shows}
use Rattle.line_answers.proofs.rules.answer_ruled.Goals as goal

pub returns-then-is_empty-clause-answers : goal.returns-then-is_empty-clause-answers
returns-then-is_empty-clause-answers g c =
    let rules : List Ruled = stand g.L.Rule c.args.rules.now in
    let zero : length c.args.rules.now ≡ 0 = grind (arith, common_steps, c.is_empty.ensures, c.if-is_empty.true) in
    let empty = nil_from_length c.args.rules.now zero in
    let none : rules ≡ [] = ap (stand g.L.Rule) empty in
    c.answer_line.ensures.answers rules
    (ap (λ (l : List Ruled). denied_by l (wished c.args.numbered.line.ask)) none ∙ none_denies (wished c.args.numbered.line.ask))

pub returns-then-is_empty-clause-told : goal.returns-then-is_empty-clause-told
returns-then-is_empty-clause-told g c bytes read =
    let rules : List Ruled = stand g.L.Rule c.args.rules.now in
    let zero : length c.args.rules.now ≡ 0 = grind (arith, common_steps, c.is_empty.ensures, c.if-is_empty.true) in
    let empty = nil_from_length c.args.rules.now zero in
    let none : rules ≡ [] = ap (stand g.L.Rule) empty in
    let w : Sight = view c.answer_line.new.guest.pass in
    none ∙ sym (ap (told_by w.seen c.answer_line.result) none ∙ told_none w.seen (added c.answer_line.result))

pub returns-in-Free-clause-shown : goal.returns-in-Free-clause-shown
returns-in-Free-clause-shown g c =
    let rules : List Ruled = stand g.L.Rule c.args.rules.now in
    let v : Sight = view c.args.guest.now.pass in let w : Sight = view c.free_ruled.new.pass in
    let text : List ℕ = c.args.proof.now.held in let after : Option ℕ = c.args.numbered.line.after in
    subst (λ (ask : Ask). ShowsLine c.args.shared.now c.args.guest.now.proves (record { after = after; ask = ask }) c.free_ruled.result text v w)
    (sym c.in-Free.is)
    (unsought_shows c.args.shared.now rules c.args.guest.now.client.name c.args.numbered.number
    (record { after = after; ask = asks.Free c.in-Free.number c.in-Free.freed }) c.args.guest.now.proves c.free_ruled.result text v w
    c.free_ruled.ensures.answers (λ request is. is))

pub returns-then-is_empty-clause-ready : goal.returns-then-is_empty-clause-ready
returns-then-is_empty-clause-ready g c = c.answer_line.ensures.ready

pub returns-then-is_empty-clause-name : goal.returns-then-is_empty-clause-name
returns-then-is_empty-clause-name g c = c.answer_line.ensures.name

pub returns-then-is_empty-clause-knows : goal.returns-then-is_empty-clause-knows
returns-then-is_empty-clause-knows g c = c.answer_line.ensures.knows

pub returns-then-is_empty-clause-budget : goal.returns-then-is_empty-clause-budget
returns-then-is_empty-clause-budget g c = c.answer_line.ensures.budget

pub returns-then-is_empty-clause-proves : goal.returns-then-is_empty-clause-proves
returns-then-is_empty-clause-proves g c = c.answer_line.ensures.proves

pub returns-then-is_empty-clause-shown : goal.returns-then-is_empty-clause-shown
returns-then-is_empty-clause-shown g c = c.answer_line.ensures.shown

pub returns-then-is_empty-clause-held : goal.returns-then-is_empty-clause-held
returns-then-is_empty-clause-held g c = c.answer_line.ensures.held

pub returns-then-is_empty-clause-room : goal.returns-then-is_empty-clause-room
returns-then-is_empty-clause-room g c = c.answer_line.ensures.room

pub returns-in_default-clause-ready : goal.returns-in_default-clause-ready
returns-in_default-clause-ready g c = c.answer_wished.ensures.ready

pub returns-in_default-clause-name : goal.returns-in_default-clause-name
returns-in_default-clause-name g c = c.answer_wished.ensures.name

pub returns-in_default-clause-knows : goal.returns-in_default-clause-knows
returns-in_default-clause-knows g c = c.answer_wished.ensures.knows

pub returns-in_default-clause-budget : goal.returns-in_default-clause-budget
returns-in_default-clause-budget g c = c.answer_wished.ensures.budget

pub returns-in_default-clause-proves : goal.returns-in_default-clause-proves
returns-in_default-clause-proves g c = c.answer_wished.ensures.proves

pub returns-in_default-clause-shown : goal.returns-in_default-clause-shown
returns-in_default-clause-shown g c = c.answer_wished.ensures.shown

pub returns-in_default-clause-held : goal.returns-in_default-clause-held
returns-in_default-clause-held g c = c.answer_wished.ensures.held

pub returns-in_default-clause-room : goal.returns-in_default-clause-room
returns-in_default-clause-room g c = c.answer_wished.ensures.room

pub returns-in_default-clause-answers : goal.returns-in_default-clause-answers
returns-in_default-clause-answers g c = c.answer_wished.ensures.answers

pub returns-in_default-clause-told : goal.returns-in_default-clause-told
returns-in_default-clause-told g c = c.answer_wished.ensures.told

pub returns-in-Free-clause-ready : goal.returns-in-Free-clause-ready
returns-in-Free-clause-ready g c = c.free_ruled.ensures.ready

pub returns-in-Free-clause-name : goal.returns-in-Free-clause-name
returns-in-Free-clause-name g c = c.free_ruled.ensures.name

pub returns-in-Free-clause-knows : goal.returns-in-Free-clause-knows
returns-in-Free-clause-knows g c = c.free_ruled.ensures.knows

pub returns-in-Free-clause-answers : goal.returns-in-Free-clause-answers
returns-in-Free-clause-answers g c =
    let caller : Caller = caller_of c.args.shared.now (stand g.L.Rule c.args.rules.now) c.args.guest.now.client.name c.args.numbered.number in
    subst (λ (ask : Ask). AnswersLine caller (record { after = c.args.numbered.line.after; ask = ask }) c.free_ruled.result
    (view c.args.guest.now.pass) (view c.free_ruled.new.pass)) (sym c.in-Free.is) c.free_ruled.ensures.answers

pub returns-in-Free-clause-told : goal.returns-in-Free-clause-told
returns-in-Free-clause-told g c =
    subst (λ (ask : Ask). TellsLine c.args.shared.now.known (record { after = c.args.numbered.line.after; ask = ask })
    (view c.free_ruled.new.pass).seen c.free_ruled.result (stand g.L.Rule c.args.rules.now) (stand g.L.Rule c.free_ruled.new.rules))
    (sym c.in-Free.is) c.free_ruled.ensures.told

pub returns-in-Free-clause-room : goal.returns-in-Free-clause-room
returns-in-Free-clause-room g c = short_room c.args.text.now c.free_ruled.result c.requires.spare c.free_ruled.ensures.short
