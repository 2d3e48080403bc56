use Rattle.std.proofs.Common.{◌∙◌, arith}
use Rattle.std.proofs.lemmas.Int.{ints, by_lt_z}
use Rattle.refusal_proof.proofs.frees.first_free_of.Goals as goal

pub loop-rest-preserved : goal.loop-rest-preserved
loop-rest-preserved c =
    let old = c.loop-rest.invariant in
    let next = c.in-Some.ensures.behind in
    let before = old.from in
    let more = next.from in
    record {
      from = omega (arith, ints, before, more);
      to = next.to ∙ old.to;
      before = λ tick low high. by_lt_z tick c.loop-rest.rest.from (λ early. old.before tick low early) (λ late. next.before tick late high);
    }
