use Rattle.std.proofs.Common.{◌≡◌, drop}
use Rattle.signal_blocks.specs.Faults.{empty_fault}
use Rattle.signal_blocks.proofs.block_cuts.faults.empty_fault.Given as goal

abbrev pub invariant-walks : goal.invariant-walks
invariant-walks l = record { count : l.route ≡ l.walk-index; rest : empty_fault l.sights l.route (drop l.walk-index l.walks) ≡ empty_fault l.sights 0 l.walks }
