use Rattle.std.proofs.Common.{◌≡◌, take}
use Rattle.path_recover.proofs.journal_reading.starts.first_difference.Given as goal

abbrev pub invariant-loop-at : goal.invariant-loop-at
invariant-loop-at l = take l.at l.file ≡ take l.at l.start
