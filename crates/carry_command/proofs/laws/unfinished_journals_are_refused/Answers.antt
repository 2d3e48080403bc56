use Rattle.carry_command.proofs.Unfinished.{unfinished_refused}
use Rattle.carry_command.proofs.laws.unfinished_journals_are_refused.Goals as goal

pub returns : goal.returns
returns c = record { refused = unfinished_refused }
