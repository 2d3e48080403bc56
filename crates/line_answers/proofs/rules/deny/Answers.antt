use Rattle.std.proofs.Common.{ap, sym, subst, refl}
use Rattle.book_gate.specs.Passes.{view}
use Rattle.client_lines.specs.declared.asks.Ask.{Ask}
use Rattle.rail_types.specs.declared.entries.Deed.TheVariants.{Grant}
use Rattle.rail_types.specs.declared.entries.Wanted.TheVariants.{Pinned}
use Rattle.line_answers.specs.Answers.{IsDeedOf, number_of}
use Rattle.line_answers.specs.Callers.{AnswersDenied}
use Rattle.line_answers.proofs.rules.deny.Goals as goal

pub returns-in-Pin-clause-answers : goal.returns-in-Pin-clause-answers
returns-in-Pin-clause-answers g c =
    c.deny_deed.ensures.answers c.args.numbered.line record {
      behind = refl;
      numbered = ap number_of c.in-Pin.is;
      asked = subst (λ (ask : Ask). IsDeedOf ask (Grant Pinned c.in-Pin.path)) (sym c.in-Pin.is) refl;
      may = c.requires.may;
    }

pub returns-in-Path-clause-answers : goal.returns-in-Path-clause-answers
returns-in-Path-clause-answers g c =
    subst (λ (ask : Ask). AnswersDenied c.args.shared.now c.args.client.now.name c.args.numbered.number
    (record { after = c.args.numbered.line.after; ask = ask }) c.args.rule c.deny_asked.result
    (view c.args.pass.now) (view c.deny_asked.new.pass)) (sym c.in-Path.is) c.deny_asked.ensures.answers

pub returns-in-Pin-clause-ready : goal.returns-in-Pin-clause-ready
returns-in-Pin-clause-ready g c = c.deny_deed.ensures.ready

pub returns-in-Pin-clause-budget : goal.returns-in-Pin-clause-budget
returns-in-Pin-clause-budget g c = c.deny_deed.ensures.budget

pub returns-in-Pin-clause-name : goal.returns-in-Pin-clause-name
returns-in-Pin-clause-name g c = c.deny_deed.ensures.name

pub returns-in-Pin-clause-knows : goal.returns-in-Pin-clause-knows
returns-in-Pin-clause-knows g c = c.deny_deed.ensures.knows

pub returns-in-Pin-clause-none : goal.returns-in-Pin-clause-none
returns-in-Pin-clause-none g c = c.deny_deed.ensures.none

pub returns-in-Pin-clause-short : goal.returns-in-Pin-clause-short
returns-in-Pin-clause-short g c = c.deny_deed.ensures.short

pub returns-in-Path-clause-ready : goal.returns-in-Path-clause-ready
returns-in-Path-clause-ready g c = c.deny_asked.ensures.ready

pub returns-in-Path-clause-budget : goal.returns-in-Path-clause-budget
returns-in-Path-clause-budget g c = c.deny_asked.ensures.budget

pub returns-in-Path-clause-name : goal.returns-in-Path-clause-name
returns-in-Path-clause-name g c = c.deny_asked.ensures.name

pub returns-in-Path-clause-knows : goal.returns-in-Path-clause-knows
returns-in-Path-clause-knows g c = c.deny_asked.ensures.knows

pub returns-in-Path-clause-none : goal.returns-in-Path-clause-none
returns-in-Path-clause-none g c = c.deny_asked.ensures.none

pub returns-in-Path-clause-short : goal.returns-in-Path-clause-short
returns-in-Path-clause-short g c = c.deny_asked.ensures.short

pub deny_deed-requires-clause-ready : goal.deny_deed-requires-clause-ready
deny_deed-requires-clause-ready g c = c.requires.ready

pub deny_deed-requires-clause-budget : goal.deny_deed-requires-clause-budget
deny_deed-requires-clause-budget g c = c.requires.budget

pub deny_deed-requires-clause-knows : goal.deny_deed-requires-clause-knows
deny_deed-requires-clause-knows g c = c.requires.knows

pub deny_deed-requires-clause-name : goal.deny_deed-requires-clause-name
deny_deed-requires-clause-name g c = c.requires.name

pub deny_asked-requires-clause-ready : goal.deny_asked-requires-clause-ready
deny_asked-requires-clause-ready g c = c.requires.ready

pub deny_asked-requires-clause-budget : goal.deny_asked-requires-clause-budget
deny_asked-requires-clause-budget g c = c.requires.budget

pub deny_asked-requires-clause-knows : goal.deny_asked-requires-clause-knows
deny_asked-requires-clause-knows g c = c.requires.knows

pub deny_asked-requires-clause-name : goal.deny_asked-requires-clause-name
deny_asked-requires-clause-name g c = c.requires.name
