-- The capacity of a stretch in a history.
use Rattle.std.specs.Prelude.{◌≡◌, ◌⊎◌, ℕ, ◌-◌, ◌^◌, ◌<◌, ◌≤◌, List, ◌++◌, Ok, Err, codes, decimal}
use Rattle.std.specs.Prelude.{length, min}
use Rattle.outside_io.specs.declared.disks.Disk.{Ghosts as Disks}
use Rattle.outside_io.specs.declared.sources.Source.{Ghosts as Sources}
use Rattle.command_reports.specs.declared.exit_status.Status.TheVariants.{No}
use Rattle.command_reports.specs.Scenes.{Scene}
use Rattle.grant_log.specs.Legal.{Register}
use Rattle.capacity_406.specs.declared.TheConstants.{MAX_TRAINS}
use Rattle.capacity_406.specs.declared.trains.Occupied.{Occupied}
use Rattle.capacity_406.specs.declared.trains.Stretch.{Stretch}
use Rattle.capacity_406.specs.Report.{IsCapacityText}
use Rattle.capacity_406.specs.StretchTrains.{AreTrainsOn}
use Rattle.command_reports.specs.Refusals.{IsTold, line_with}
use Rattle.command_reports.specs.declared.refusals.Refusal.{Refusal}
use Rattle.command_reports.specs.declared.refusals.Refusal.TheVariants.{Memory}
use Rattle.print_commands.specs.Steps.{HasRead, Telling}

-- the zones from a first to a last one, and a window of ticks from one on and before another
abbrev pub stretch_of : ℕ → ℕ → ℕ → ℕ → Stretch
stretch_of first last from to = record { first = first; last = last; from = from; to = to }

-- both zones are some of so many
abbrev pub AreKnown : ℕ → Stretch → Type 0
AreKnown zones stretch = (stretch.first < zones) × (stretch.last < zones)

-- the first of the two zones that is none of so many
abbrev pub IsFirstUnknown : ℕ → Stretch → ℕ → Type 0
IsFirstUnknown zones stretch zone =
    (zones ≤ zone) × ((zone ≡ stretch.first) ⊎ ((zone ≡ stretch.last) × (stretch.first < zones)))

-- the text of the capacity of the trains that run on the stretch
pub record IsCapacityOf (stretch : Stretch) (history : Register) (text : List ℕ) : Type 0 where
  pub known : AreKnown history.timetable.net.zones stretch
  pub trains : List Occupied
  pub run : AreTrainsOn stretch history.timetable history.entries trains
  pub few : ¬ (MAX_TRAINS < length trains)
  pub tells : IsCapacityText stretch trains text

-- the line that is reported of a zone that the network doesn't have
abbrev pub unknown_line : ℕ → List ℕ
unknown_line zone = line_with (codes "zone ") (decimal zone ++ codes " unknown")

-- the line that is reported of so many trains, where they are too many
abbrev pub many_line : ℕ → List ℕ
many_line count = line_with (codes "trains ") (decimal count ++ codes " too many")

-- this zone is the first that the network doesn't have
pub record IsUnknown (stretch : Stretch) (history : Register) (line : List ℕ) : Type 0 where
  pub zone : ℕ
  pub unknown : IsFirstUnknown history.timetable.net.zones stretch zone
  pub line_is : line ≡ unknown_line zone

-- the trains that run on the stretch are more than one compression takes
pub record AreTooMany (stretch : Stretch) (history : Register) (line : List ℕ) : Type 0 where
  pub known : AreKnown history.timetable.net.zones stretch
  pub trains : List Occupied
  pub run : AreTrainsOn stretch history.timetable history.entries trains
  pub many : MAX_TRAINS < length trains
  pub line_is : line ≡ many_line (min (length trains) (2 ^ 32 - 1))

-- why no capacity is told, by the line that is reported
abbrev pub IsWithout : Stretch → Register → List ℕ → Type 0
IsWithout stretch history line =
    IsUnknown stretch history line ⊎ AreTooMany stretch history line

-- no capacity is told, for one of these reasons, or since memory was wanted
abbrev pub IsNotTold : Stretch → Register → Refusal → Type 0
IsNotTold stretch history refusal =
    ((line : List ℕ) × IsWithout stretch history line × IsTold No line refusal)
    ⊎ (refusal ≡ Memory)

-- what is told of a stretch: its capacity, or why there is none
abbrev pub TellsCapacity : Stretch → Telling
TellsCapacity stretch history (Ok text) = IsCapacityOf stretch history text
TellsCapacity stretch history (Err refusal) = IsNotTold stretch history refusal

-- the three files were read, and by their history this line is reported in place of a capacity
pub record HasNoCapacity {Src Snk Dsk : Type 0} (source : Sources Src) (disk : Disks Dsk)
    (network base journal : List ℕ) (stretch : Stretch) (old : Scene Src Snk Dsk) : Type 0 where
  pub history : Register
  pub between : Scene Src Snk Dsk
  pub read : HasRead source disk network base journal old between history
  pub line : List ℕ
  pub without : IsWithout stretch history line

-- *inside*: why the capacity of these trains is not told
abbrev pub AreRefused : List Occupied → Refusal → Type 0
AreRefused trains refusal =
    ((MAX_TRAINS < length trains)
    × IsTold No (many_line (min (length trains) (2 ^ 32 - 1))) refusal)
    ⊎ (refusal ≡ Memory)
