use Rattle.std.proofs.Common.{◌≡◌, take}
use Rattle.label_search.specs.Nearing.{behind_calls}
use Rattle.label_search.proofs.nearing.spots_behind.Given as goal

abbrev pub invariant-loop-spot : goal.invariant-loop-spot
invariant-loop-spot l = l.behind ≡ behind_calls l.blocks (take l.spot-index l.spots)
