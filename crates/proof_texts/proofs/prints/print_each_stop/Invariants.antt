use Rattle.std.proofs.Common.{◌≡◌, ◌++◌, take}
use Rattle.std.specs.List.{flat_map}
use Rattle.proof_texts.specs.Prints.{stop_text}
use Rattle.proof_texts.proofs.prints.print_each_stop.Given as goal

abbrev pub invariant-loop-stop : goal.invariant-loop-stop
invariant-loop-stop l = l.to.held ≡ l.fn.to.held ++ flat_map (stop_text l.stops) (take l.stop-index l.items)
