-- The kinds of files that commands read.
use Rattle.std.specs.Prelude.{ℕ, List, codes}
use Rattle.command_reports.specs.declared.exit_status.Status.{Status}
use Rattle.command_reports.specs.declared.exit_status.Status.TheVariants as status
use Rattle.rail_types.specs.declared.limits.TheConstants.{MAX_NETWORK_FILE_BYTES}
use Rattle.rail_types.specs.declared.limits.TheConstants.{MAX_TIMETABLE_FILE_BYTES}
use Rattle.command_files.specs.declared.files.FileKind.{FileKind}
use Rattle.command_files.specs.declared.files.FileKind.TheVariants.{Network, Base, Trains}

-- most bytes of such a file
abbrev pub limit_of : FileKind → ℕ
limit_of Network = MAX_NETWORK_FILE_BYTES
limit_of Base = MAX_TIMETABLE_FILE_BYTES
limit_of Trains = MAX_TIMETABLE_FILE_BYTES

-- the status of a command that refuses such a file
abbrev pub status_of : FileKind → Status
status_of Network = status.Network
status_of Base = status.Base
status_of Trains = status.Trains

-- what stands before the text of its fault
abbrev pub head_of : FileKind → List ℕ
head_of Network = codes "network: "
head_of Base = codes "base: "
head_of Trains = codes "trains: "

-- the text of a file that has too many bytes: of such a file no more is
-- known than that it has one more
abbrev pub excess_of : FileKind → List ℕ
excess_of Network = codes "limit file 67108865"
excess_of Base = codes "limit file 16777217"
excess_of Trains = codes "limit file 16777217"
