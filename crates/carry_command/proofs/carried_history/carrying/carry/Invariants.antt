use Rattle.path_recover.specs.journal.Headers.{header_of}
use Rattle.carry_command.specs.CarriedInside.{HasCarried, IsSpelled}
use Rattle.carry_command.proofs.carried_history.carrying.carry.Given as goal

abbrev pub invariant-loop-at : goal.invariant-loop-at
invariant-loop-at l = record {
  carried : HasCarried l.empty.timetable l.old.entries l.at l.carrying;
  spelled : IsSpelled (header_of l.network l.base) l.old.entries l.carrying;
}
