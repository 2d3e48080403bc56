use Rattle.std.proofs.Common.{◌+◌, sym, subst, get_or, pos, arith}
use Rattle.std.proofs.lemmas.List.{get_or_default}
use Rattle.refusal_proof.specs.declared.labels.Label.{Label}
use Rattle.refusal_proof.specs.Inside.{IsReaching}
use Rattle.refusal_proof.proofs.Numbering.{AreReaching, all_alike, next_reaching}
use Rattle.refusal_proof.proofs.labels.reaching_all.Goals as goal

pub loop-label-preserved : goal.loop-label-preserved
loop-label-preserved c =
    let sorted = c.args.sorted.now in
    let k = c.loop-label.label-index in
    let d : Label = record { number = 0; window = record { from = pos 0; to = pos 0 } } in
    subst (AreReaching sorted (k + 1)) (sym c.in_ok-push.ensures.items)
    (next_reaching sorted c.requires k c.loop-label.labels.items c.loop-label.invariant (get_or sorted k d) c.reaching-next.result c.loop-label-test.true (λ e. get_or_default sorted k e d c.loop-label-test.true)
    (subst (λ before. IsReaching before (get_or sorted k d) c.reaching-next.result) c.as_slice.ensures.value c.reaching-next.ensures))

pub returns-clause-alike : goal.returns-clause-alike
returns-clause-alike c = all_alike c.args.sorted.now c.loop-label.labels.items c.loop-label.label-index (omega (arith, c.loop-label-test.false)) c.loop-label.invariant
