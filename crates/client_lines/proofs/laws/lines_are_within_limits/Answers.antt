use Rattle.client_lines.proofs.Ranges.{line_within}
use Rattle.client_lines.proofs.laws.lines_are_within_limits.Goals as goal

pub returns : goal.returns
returns c known fields line sound spells = line_within known sound fields line spells
