use Rattle.std.proofs.Common.{arith}
use Rattle.std.proofs.lemmas.Grind.{common_steps}
use Rattle.std.proofs.lemmas.List.Elements.{All-more}
use Rattle.entry_codec.specs.Within.{IsFourBytes}
use Rattle.entry_codec.proofs.writing.add_runs.Goals as goal

pub loop-run-preserved : goal.loop-run-preserved
loop-run-preserved c = record {
  held = grind (arith, common_steps);
  spare = omega arith;
  typed = All-more (λ run. IsFourBytes run.block) c.args.runs.now c.loop-run.run-index _ c.loop-run-test.true c.loop-run.invariant.typed c.add_run.ensures.typed;
}
