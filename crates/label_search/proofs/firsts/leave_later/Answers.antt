use Rattle.std.proofs.Common.{arith, inl, inr, subst, sym}
use Rattle.std.proofs.lemmas.Bool.{cases_eq}
use Rattle.label_search.specs.Pending.{IsToBeLeft}
use Rattle.label_search.proofs.Advancing.{due_kept}
use Rattle.label_search.proofs.firsts.leave_later.Goals as goal

pub loop-label-preserved : goal.loop-label-preserved
loop-label-preserved c = record {
  kept = λ due waits. c.leave_one.ensures.kept due (c.loop-label.invariant.kept due waits);
  left = λ label from below. elim (cases_eq label c.loop-label.label) [
    | inl same ↦ subst (IsToBeLeft c.args.plan.now c.args.search.now c.leave_one.new.queue) (sym same) c.in_ok-leave_one.ensures.left
    | inr differs ↦ due_kept c.loop-label.queue c.leave_one.new.queue c.leave_one.ensures.kept _ _ _ _ (c.loop-label.invariant.left label from (omega arith))
  ];
}
