use Rattle.std.specs.Prelude.{pos}
use Rattle.std.specs.List.{AllWithin}
use Rattle.label_search.specs.Endings.{IsShutWay}
use Rattle.label_search.proofs.endings.are_shut.Given as goal

abbrev pub invariant-loop-way : goal.invariant-loop-way
invariant-loop-way l = AllWithin (IsShutWay l.blocks l.book l.trip (pos l.horizon)) l.ways 0 l.way-index
