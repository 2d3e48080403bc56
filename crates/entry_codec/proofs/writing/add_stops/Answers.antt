use Rattle.std.proofs.Common.{arith}
use Rattle.std.proofs.lemmas.Grind.{common_steps}
use Rattle.std.proofs.lemmas.List.Elements.{All-more}
use Rattle.entry_codec.specs.Within.{IsFourBytes}
use Rattle.entry_codec.proofs.writing.add_stops.Goals as goal

pub loop-stop-preserved : goal.loop-stop-preserved
loop-stop-preserved c = record {
  held = grind (arith, common_steps);
  spare = omega arith;
  typed = All-more (λ stop. IsFourBytes stop.stop) c.args.stops.now c.loop-stop.stop-index _ c.loop-stop-test.true c.loop-stop.invariant.typed c.add_stop.ensures.typed;
}
