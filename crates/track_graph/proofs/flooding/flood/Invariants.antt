use Rattle.std.proofs.Common.{◌+◌, length, is_none}
use Rattle.std.specs.List.{count_by}
use Rattle.track_graph.proofs.Spreads.{IsFlooding}
use Rattle.track_graph.proofs.flooding.flood.Given as goal

abbrev pub invariant-waits : goal.invariant-waits
invariant-waits l = IsFlooding l.rows l.start l.zone l.fn.marks l.marks l.waiting.items

-- each piece waits once
abbrev pub decreases-waits : goal.decreases-waits
decreases-waits l = count_by is_none l.marks + length l.waiting.items
