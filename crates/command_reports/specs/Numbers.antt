-- The numbers of the statuses.
use Rattle.std.specs.Prelude.{ℕ}
use Rattle.command_reports.specs.declared.exit_status.Status.{Status}
use Rattle.command_reports.specs.declared.exit_status.Status.TheVariants.{Done, No, Words, Network}
use Rattle.command_reports.specs.declared.exit_status.Status.TheVariants.{Base, Trains}
use Rattle.command_reports.specs.declared.exit_status.Status.TheVariants.{Journal, Opening}
use Rattle.command_reports.specs.declared.exit_status.Status.TheVariants.{DiskFault, ClientEnd}
use Rattle.command_reports.specs.declared.exit_status.Status.TheVariants.{Report, Memory}

-- the number with which the program exits
abbrev pub status_number : Status → ℕ
status_number Done = 0
status_number No = 1
status_number Words = 2
status_number Network = 3
status_number Base = 4
status_number Trains = 5
status_number Journal = 6
status_number Opening = 7
status_number DiskFault = 8
status_number ClientEnd = 9
status_number Report = 10
status_number Memory = 11
