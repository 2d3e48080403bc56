use Rattle.blocking_time.proofs.Leading.{the_first_is_told}
use Rattle.blocking_time.proofs.laws.the_first_broken_rule_is_told.Goals as goal

pub returns : goal.returns
returns c = the_first_is_told
