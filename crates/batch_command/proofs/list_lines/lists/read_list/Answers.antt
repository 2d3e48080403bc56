use Rattle.std.proofs.Common.{[], refl}
use Rattle.std.proofs.KnownBytes.{Consumes-nil}
use Rattle.batch_command.proofs.list_lines.lists.read_list.Goals as goal

pub returns-in_default-clause-refused : goal.returns-in_default-clause-refused
returns-in_default-clause-refused g c = record {
  taken = [];
  consumed = Consumes-nil (g.S.Source.left c.args.source.now);
  quiet = refl;
}

pub read_lines-requires-clause-nothing : goal.read_lines-requires-clause-nothing
read_lines-requires-clause-nothing g c = c.in-Ok.ensures

pub read_lines-requires-clause-none : goal.read_lines-requires-clause-none
read_lines-requires-clause-none g c = c.new-lines.ensures.items

pub returns-in-Ok-read_lines-clause-read : goal.returns-in-Ok-read_lines-clause-read
returns-in-Ok-read_lines-clause-read g c = c.in-Ok-read_lines.ensures.read

pub returns-clause-refused : goal.returns-clause-refused
returns-clause-refused g c = c.in-Err.ensures.refused
