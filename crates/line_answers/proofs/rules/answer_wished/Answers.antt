use Rattle.std.proofs.Common.{rules as all_rules, ap, ◌≡◌, List, None, Option, Some, sym, ◌∙◌, subst}
use Rattle.admission_rules.specs.declared.rules.Wish.{Wish}
use Rattle.book_gate.specs.Passes.{view}
use Rattle.admission_rules.specs.Ruled.{Ruled, denied_by, stand}
use Rattle.ask_turns.specs.Turns.{Sight}
use Rattle.line_answers.specs.Answers.{Caller}
use Rattle.line_answers.specs.Callers.{caller_of}
use Rattle.line_answers.specs.Points.{added}
use Rattle.line_answers.specs.Rules.{told_grant}
use Rattle.line_answers.proofs.Told.{denied_may, untold_by, wished_told}
use Rattle.line_answers.proofs.Proved.{denied_shows}
use Rattle.line_answers.proofs.Rooms.{short_room}
use Rattle.line_answers.proofs.rules.answer_wished.Goals as goal

pub returns-in-Some-clause-told : goal.returns-in-Some-clause-told
returns-in-Some-clause-told g c bytes read =
    sym (untold_by (view c.deny.new.pass).seen c.deny.result c.deny.ensures.none (stand g.L.Rule c.args.rules.now))

pub returns-clause-told : goal.returns-clause-told
returns-clause-told g c bytes read =
    let rules : List Ruled = stand g.L.Rule c.args.rules.now in
    let caller : Caller = caller_of c.args.shared.now rules c.args.guest.now.client.name c.args.numbered.number in
    let v : Sight = view c.args.guest.now.pass in let w : Sight = view c.answer_line-reply.new.guest.pass in
    let new : List Ruled = stand g.L.Rule c.tell_of_grant.new.rules in
    let none : c.first_denial.result ≡ None = search all_rules in
    let allowed = ap (denied_by rules) (sym c.wish_of_line-wish.ensures) ∙ sym c.first_denial.ensures ∙ none in
    let told = subst (λ (wish : Option Wish). new ≡ told_grant (added c.answer_line-reply.result) wish rules) c.wish_of_line-wish.ensures c.tell_of_grant.ensures in
    wished_told caller c.args.numbered.line bytes read c.answer_line-reply.result v w
    (c.answer_line-reply.ensures.answers rules allowed bytes read) c.requires.no_free rules new told

pub returns-clause-answers : goal.returns-clause-answers
returns-clause-answers g c =
    let rules : List Ruled = stand g.L.Rule c.args.rules.now in
    let none : c.first_denial.result ≡ None = search all_rules in
    c.answer_line-reply.ensures.answers rules
    (ap (denied_by rules) (sym c.wish_of_line-wish.ensures) ∙ sym c.first_denial.ensures ∙ none)

pub returns-in-Some-clause-answers : goal.returns-in-Some-clause-answers
returns-in-Some-clause-answers g c =
    let rules : List Ruled = stand g.L.Rule c.args.rules.now in
    let some : c.first_denial.result ≡ Some c.in-Some.rule = search all_rules in
    c.deny.ensures.answers rules
    (ap (denied_by rules) (sym c.wish_of_line-wish.ensures) ∙ sym c.first_denial.ensures ∙ some)

pub deny-requires-clause-may : goal.deny-requires-clause-may
deny-requires-clause-may g c =
    let rules : List Ruled = stand g.L.Rule c.args.rules.now in
    let some : c.first_denial.result ≡ Some c.in-Some.rule = search all_rules in
    denied_may rules c.args.numbered.line.ask c.in-Some.rule
    (ap (denied_by rules) (sym c.wish_of_line-wish.ensures) ∙ sym c.first_denial.ensures ∙ some)

pub returns-in-Some-clause-shown : goal.returns-in-Some-clause-shown
returns-in-Some-clause-shown g c =
    let rules : List Ruled = stand g.L.Rule c.args.rules.now in
    let some : c.first_denial.result ≡ Some c.in-Some.rule = search all_rules in
    let denied = ap (denied_by rules) (sym c.wish_of_line-wish.ensures) ∙ sym c.first_denial.ensures ∙ some in
    denied_shows c.args.shared.now rules c.args.guest.now.client.name c.args.numbered.number c.args.numbered.line c.args.guest.now.proves c.deny.result
    c.args.proof.now.held (view c.args.guest.now.pass) (view c.deny.new.pass) (c.deny.ensures.answers rules denied) c.in-Some.rule
    (denied_may rules c.args.numbered.line.ask c.in-Some.rule denied) denied

pub returns-in-Some-clause-ready : goal.returns-in-Some-clause-ready
returns-in-Some-clause-ready g c = c.deny.ensures.ready

pub returns-in-Some-clause-name : goal.returns-in-Some-clause-name
returns-in-Some-clause-name g c = c.deny.ensures.name

pub returns-in-Some-clause-knows : goal.returns-in-Some-clause-knows
returns-in-Some-clause-knows g c = c.deny.ensures.knows

pub returns-clause-ready : goal.returns-clause-ready
returns-clause-ready g c = c.answer_line-reply.ensures.ready

pub returns-clause-name : goal.returns-clause-name
returns-clause-name g c = c.answer_line-reply.ensures.name

pub returns-clause-knows : goal.returns-clause-knows
returns-clause-knows g c = c.answer_line-reply.ensures.knows

pub returns-clause-budget : goal.returns-clause-budget
returns-clause-budget g c = c.answer_line-reply.ensures.budget

pub returns-clause-proves : goal.returns-clause-proves
returns-clause-proves g c = c.answer_line-reply.ensures.proves

pub returns-clause-shown : goal.returns-clause-shown
returns-clause-shown g c = c.answer_line-reply.ensures.shown

pub returns-clause-held : goal.returns-clause-held
returns-clause-held g c = c.answer_line-reply.ensures.held

pub returns-clause-room : goal.returns-clause-room
returns-clause-room g c = c.answer_line-reply.ensures.room

pub returns-in-Some-clause-room : goal.returns-in-Some-clause-room
returns-in-Some-clause-room g c = short_room c.args.text.now c.deny.result c.requires.spare c.deny.ensures.short
