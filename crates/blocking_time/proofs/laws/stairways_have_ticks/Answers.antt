use Rattle.blocking_time.proofs.Lasting.{stairways_have_ticks}
use Rattle.blocking_time.proofs.laws.stairways_have_ticks.Goals as goal

pub returns : goal.returns
returns c = stairways_have_ticks
