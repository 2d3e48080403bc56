use Rattle.std.proofs.Common.{arith}
use Rattle.std.proofs.lemmas.Grind.{common_steps}
use Rattle.railjson_read.proofs.infra_lists.switch_lists.read_switches.Goals as goal

pub objects-preserved : goal.objects-preserved
objects-preserved c = record {
  read = grind (arith, common_steps);
  count = grind (arith, common_steps);
  within = c.in_ok-read_switch.ensures.within;
}
