use Rattle.std.proofs.Common.{◌≡◌, ◌++◌, take}
use Rattle.label_search.specs.Nearing.{behind_ways}
use Rattle.label_search.proofs.nearing.push_behind.Given as goal

abbrev pub invariant-loop-way : goal.invariant-loop-way
invariant-loop-way l = l.behind ≡ l.initial.behind ++ behind_ways l.blocks (take l.way-index l.ways)
