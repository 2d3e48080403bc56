use Rattle.std.proofs.Common.{All}
use Rattle.label_search.specs.Limits.{IsAhead}
use Rattle.label_search.proofs.nearing.shorten.Given as goal

abbrev pub invariant-loop-one : goal.invariant-loop-one
invariant-loop-one l = All IsAhead l.short.items
