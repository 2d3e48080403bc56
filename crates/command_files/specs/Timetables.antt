-- The timetable that two files tell.
use Rattle.rail_types.specs.Timetables.{Timetable, timetable_of}
use Rattle.command_files.specs.declared.bases.BaseFile.{BaseFile}
use Rattle.command_files.specs.declared.networks.NetworkFile.{NetworkFile}

-- the timetable of a network's and a base timetable's file
abbrev pub timetable_on : NetworkFile → BaseFile → Timetable
timetable_on network base = timetable_of network.named.network base.base
