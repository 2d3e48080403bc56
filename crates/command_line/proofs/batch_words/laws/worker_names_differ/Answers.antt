use Rattle.command_line.proofs.Workers.{one_worker}
use Rattle.command_line.proofs.batch_words.laws.worker_names_differ.Goals as goal

pub returns : goal.returns
returns c name one other few few' same = one_worker name one other same
