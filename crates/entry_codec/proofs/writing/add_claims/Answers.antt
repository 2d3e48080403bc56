use Rattle.std.proofs.Common.{arith}
use Rattle.std.proofs.lemmas.Grind.{common_steps}
use Rattle.std.proofs.lemmas.List.Elements.{All-more}
use Rattle.entry_codec.specs.Within.{IsFourBytes}
use Rattle.entry_codec.proofs.writing.add_claims.Goals as goal

pub loop-claim-preserved : goal.loop-claim-preserved
loop-claim-preserved c = record {
  held = grind (arith, common_steps);
  spare = omega arith;
  typed = All-more (λ claim. IsFourBytes claim.zone) c.args.claims.now c.loop-claim.claim-index _ c.loop-claim-test.true c.loop-claim.invariant.typed c.add_claim.ensures.typed;
}
