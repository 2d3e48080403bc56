use Rattle.blocking_time.proofs.Legging.{legs_are_the_runs}
use Rattle.blocking_time.proofs.laws.legs_are_the_runs.Goals as goal

pub returns : goal.returns
returns c = legs_are_the_runs
