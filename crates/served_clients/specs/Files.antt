-- The files of a run, and what lines may name by them.
use Rattle.std.specs.Prelude.{All, List}
use Rattle.command_files.specs.base.Sound.{IsBaseOn}
use Rattle.client_lines.specs.Names.{Names}
use Rattle.command_files.specs.declared.bases.BaseFile.{BaseFile}
use Rattle.command_files.specs.declared.networks.NetworkFile.{NetworkFile}
use Rattle.rail_types.specs.Named.{IsNamed}
use Rattle.rail_types.specs.declared.named_network.Named.{Named}
use Rattle.rail_types.specs.Limits.{IsTrainWithinLimits}
use Rattle.rail_types.specs.Timetables.{IsTimetable, Timetable, timetable_of}
use Rattle.rail_types.specs.declared.trains.Train.{Train}
use Rattle.served_clients.specs.declared.served_journals.files.Files.{Files}

-- the files together
abbrev pub files_of : NetworkFile → BaseFile → List Train → Files
files_of network base trains = record { network = network; base = base; trains = trains }

-- the timetable of the files
abbrev pub timetable_on : Files → Timetable
timetable_on files = timetable_of files.network.named.network files.base.base

-- a network and trains, as lines name them
abbrev pub names_of : Named → List Train → Names
names_of railway trains = record { railway = railway; trains = trains }

-- what lines may name, by the files
abbrev pub known_by : Files → Names
known_by files = names_of files.network.named files.trains

-- *inside*: what is known of files that were read
abbrev pub IsNetworkRead : NetworkFile → Type 0
IsNetworkRead network = IsNamed network.named

pub record IsBaseRead (network : NetworkFile) (base : BaseFile) : Type 0 where
  pub named : IsNamed network.named
  pub sound : IsBaseOn network.named.network.zones base.base

pub record AreFiles (files : Files) : Type 0 where
  pub named : IsNamed files.network.named
  pub timetable : IsTimetable (timetable_on files)
  pub trains : All IsTrainWithinLimits files.trains
