use Rattle.std.proofs.Common.{◌≡◌, rules, sym, ap, ◌∙◌, subst}
use Rattle.book_gate.specs.Passes.{view}
use Rattle.book_gate.specs.Rule.{budget, IsWithinShare}
use Rattle.book_gate.specs.Steps.{joining}
use Rattle.book_gate.specs.Views.{statement_of}
use Rattle.book_gate.proofs.Keeps.{join_step}
use Rattle.book_gate.proofs.Merging.{within_joined, budget_joined}
use Rattle.book_gate.proofs.gates.Gate.join.Goals as goal

pub join_seat-requires : goal.join_seat-requires
join_seat-requires g c = (
  search rules,
  search rules,
  search rules,
  search rules,
  join_step (statement_of g.S.Stands.list g.S.Stands.settled g.S.Stands.count) g.S.Stands.footing _ _ _ _ _ _ c.requires.idle.0 c.requires.idle.1 c.requires.other_idle.0 c.requires.other_idle.1,
)

pub meet-requires-clause-own : goal.meet-requires-clause-own
meet-requires-clause-own g c =
    let joined : c.join_seat.new.seat.me.0 ≡ joining (view c.args.into.now) (view c.args.other) = search rules in
    (search rules, search rules, subst IsWithinShare (sym joined) (within_joined (view c.args.into.now) (view c.args.other) c.requires.own.2 c.requires.other_own.2))

pub returns-clause-budget : goal.returns-clause-budget
returns-clause-budget g c =
    let joined : view c.meet.new.pass ≡ joining (view c.args.into.now) (view c.args.other) = search rules in
    ap budget joined ∙ budget_joined (view c.args.into.now) (view c.args.other) c.requires.own.2 c.requires.other_own.2 c.requires.other_idle.0
