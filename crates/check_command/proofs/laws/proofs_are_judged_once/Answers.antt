use Rattle.check_command.proofs.Once.{judged_once}
use Rattle.check_command.proofs.laws.proofs_are_judged_once.Goals as goal

pub returns : goal.returns
returns c = judged_once c.proofs_are_read_once.ensures
