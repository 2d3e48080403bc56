use Rattle.batch_command.proofs.Gathered.{IsGathered}
use Rattle.batch_command.proofs.list_lines.lists.read_lines.Given as goal

abbrev pub invariant-loop-before : goal.invariant-loop-before
invariant-loop-before g l =
    IsGathered g.S.Source l.fn.source l.source l.reader.pending l.lines.items l._before
