-- The stairway table of an entry.
use Rattle.std.specs.Prelude.{◌≡◌, ◌⊎◌, ℕ, List, ◌++◌, Option, None, Some, Ok, Err, codes, decimal}
use Rattle.std.specs.Prelude.{slice_get}
use Rattle.outside_io.specs.declared.disks.Disk.{Ghosts as Disks}
use Rattle.outside_io.specs.declared.sources.Source.{Ghosts as Sources}
use Rattle.command_reports.specs.declared.exit_status.Status.TheVariants.{No}
use Rattle.command_reports.specs.Scenes.{Scene}
use Rattle.rail_types.specs.declared.entries.Deed.{Deed}
use Rattle.rail_types.specs.declared.entries.Deed.TheVariants.{Hold, Grant, Free}
use Rattle.rail_types.specs.declared.entries.Entry.{Entry}
use Rattle.rail_types.specs.declared.paths.Path.{Path}
use Rattle.grant_log.specs.Legal.{Register}
use Rattle.stairway_print.specs.Stairs.{stairs_text}
use Rattle.command_reports.specs.Refusals.{IsTold, line_with}
use Rattle.command_reports.specs.declared.refusals.Refusal.{Refusal}
use Rattle.command_reports.specs.declared.refusals.Refusal.TheVariants.{Memory}
use Rattle.print_commands.specs.Steps.{HasRead, Telling}

-- the path that a deed grants, None where it grants none
abbrev pub granted_by : Deed → Option Path
granted_by (Hold claims reason) = None
granted_by (Grant wanted path) = Some path
granted_by (Free at) = None

-- the path that an entry grants, where there is one
abbrev pub granted_in : Option Entry → Option Path
granted_in None = None
granted_in (Some entry) = granted_by entry.deed

-- the path that the entry at a position grants; None where it is no grant, and from the front on
abbrev pub granted_at : List Entry → ℕ → Option Path
granted_at entries at = granted_in (slice_get entries at)

-- the table of the stairway that the entry grants, by the network and the settings of its history
pub record IsTableOf (history : Register) (entry : ℕ) (table : List ℕ) : Type 0 where
  pub path : Path
  pub granted : granted_at history.entries entry ≡ Some path
  pub table_is : table ≡ stairs_text history.timetable.net history.timetable.settings path

-- the line that is reported of an entry that is no grant
abbrev pub no_grant_line : ℕ → List ℕ
no_grant_line entry = line_with (codes "entry ") (decimal entry ++ codes " is no grant")

-- the entry is no grant, and this is reported
pub record IsNoGrant (history : Register) (entry : ℕ) (refusal : Refusal) : Type 0 where
  pub none : granted_at history.entries entry ≡ None
  pub told : IsTold No (no_grant_line entry) refusal

-- what is told of the entry at a position: its stairway, or that it is no grant
abbrev pub TellsStairs : ℕ → Telling
TellsStairs entry history (Ok table) = IsTableOf history entry table
TellsStairs entry history (Err refusal) = IsNoGrant history entry refusal ⊎ (refusal ≡ Memory)

-- the three files were read, and the entry is no grant of their history
pub record HasNoGrant {Src Snk Dsk : Type 0} (source : Sources Src) (disk : Disks Dsk)
    (network base journal : List ℕ) (entry : ℕ) (old : Scene Src Snk Dsk) : Type 0 where
  pub history : Register
  pub between : Scene Src Snk Dsk
  pub read : HasRead source disk network base journal old between history
  pub none : granted_at history.entries entry ≡ None
