use Rattle.std.proofs.Common.{◌≡◌, IfSome}
use Rattle.path_recover.specs.Pieces.{HasLooked, IsFrontOf}
use Rattle.path_recover.proofs.history_reading.pieces.read_behind.Given as goal

abbrev pub invariant-loop : goal.invariant-loop
invariant-loop g l = record {
  front : IfSome (g.D.Disk.contents l.fn.disk) (IsFrontOf l.file.items);
  looked : HasLooked g.D.Disk l.fn.disk l.disk;
  faults : g.D.Disk.faults l.disk ≡ g.D.Disk.faults l.fn.disk;
}
