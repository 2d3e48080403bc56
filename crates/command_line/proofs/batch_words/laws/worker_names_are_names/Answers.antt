use Rattle.command_line.proofs.Workers.{is_name}
use Rattle.command_line.proofs.batch_words.laws.worker_names_are_names.Goals as goal

pub returns : goal.returns
returns c = is_name
