use Rattle.std.specs.Prelude.{pos}
use Rattle.std.specs.List.{AllWithin}
use Rattle.label_search.specs.Endings.{AreShutFrom}
use Rattle.label_search.proofs.endings.spots_are_shut.Given as goal

abbrev pub invariant-loop-number : goal.invariant-loop-number
invariant-loop-number l = AllWithin (AreShutFrom l.chart.spots l.blocks l.book l.trip (pos l.horizon)) l.numbers 0 l.number-index
