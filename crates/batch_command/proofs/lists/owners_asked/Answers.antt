use Rattle.std.proofs.Common.{◌∙◌, ap}
use Rattle.command_line.specs.Workers.{worker_names}
use Rattle.batch_command.specs.Owners.{owners_of}
use Rattle.batch_command.proofs.lists.owners_asked.Goals as goal

pub returns-in-Ok-owners_by-clause-asked : goal.returns-in-Ok-owners_by-clause-asked
returns-in-Ok-owners_by-clause-asked c = (
  c.in-Ok.numbers.items,
  c.in-Ok.ensures.asked,
  c.in-Ok-owners_by.ensures ∙ ap (owners_of c.args.history.now.entries (worker_names c.args.batch.now c.args.workers)) c.deref.ensures.value,
)

pub returns-clause-flaw : goal.returns-clause-flaw
returns-clause-flaw c = c.in-Err.ensures.flaw
