use Rattle.blocking_time.proofs.Nearing.{stairways_are_near}
use Rattle.blocking_time.proofs.laws.stairways_are_near.Goals as goal

pub returns : goal.returns
returns c = stairways_are_near
