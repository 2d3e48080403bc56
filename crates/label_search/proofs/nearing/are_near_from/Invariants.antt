use Rattle.std.specs.List.{AllWithin}
use Rattle.label_search.specs.Nearing.{IsNearAlong}
use Rattle.label_search.proofs.nearing.are_near_from.Given as goal

abbrev pub invariant-loop-way : goal.invariant-loop-way
invariant-loop-way l = AllWithin (IsNearAlong l.blocks l.ticks l.number) l.ways 0 l.way-index
