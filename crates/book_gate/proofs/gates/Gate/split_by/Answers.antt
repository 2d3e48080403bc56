use Rattle.std.proofs.Common.{rules, ℕ, ◌<◌, ◌≤◌, subst}
use Rattle.book_gate.specs.Passes.{turns_left, view}
use Rattle.book_gate.specs.Views.{statement_of}
use Rattle.book_gate.proofs.Keeps.{split_step}
use Rattle.book_gate.proofs.gates.Gate.split_by.Goals as goal

pub split_seat-requires : goal.split_seat-requires
split_seat-requires g c = let amount = c.requires.amount in (
  search rules,
  search rules,
  split_step (statement_of g.S.Stands.list g.S.Stands.settled g.S.Stands.count) g.S.Stands.footing _ _ _ _ _ c.requires.idle.0 c.requires.idle.1
      (subst (λ (n : ℕ). 1 ≤ n) amount c.requires.some) (subst (λ (n : ℕ). n ≤ turns_left c.args.pass.now) amount c.requires.budget) (subst (λ (n : ℕ). n < (view c.args.pass.now).share) amount c.requires.rest),
)
