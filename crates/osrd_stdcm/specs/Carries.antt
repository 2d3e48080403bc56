-- What is promised of an order to carry a journal.
use Rattle.std.specs.Prelude.{◌≡◌, ◌≢◌, ◌⊎◌, ℕ, List, Option, Some}
use Rattle.outside_io.specs.Places.{Replaces, Untouched}
use Rattle.outside_io.specs.declared.disks.Disk.{Ghosts as Disks}
use Rattle.outside_io.specs.declared.sinks.Sink.{Ghosts as Sinks}
use Rattle.outside_io.specs.declared.sources.Source.{Ghosts as Sources}
use Rattle.command_reports.specs.Scenes.{Scene}
use Rattle.carry_command.specs.Disks.{IsEmpty}
use Rattle.carry_command.specs.Names.{Names}
use Rattle.carry_command.specs.Runs.{HasPrepared, IsNotCarried, WasCarriedTo}
use Rattle.print_commands.specs.Steps.{WasOnlyRead}

-- the names of an order to carry
abbrev pub carry_names : (network base journal from from_base : List ℕ) → Option (List ℕ) → Names
carry_names network base journal from from_base left = record {
  network = network;
  base = base;
  journal = journal;
  from = from;
  from_base = from_base;
  left = left;
}

-- An entry would be left out and has no file, the line of the first such one was reported, and the
-- disk of the new journal is empty, and was only looked at.
pub record IsNotCarriedOver {Src Snk Dsk : Type 0} (source : Sources Src) (sink : Sinks Snk)
    (disk : Disks Dsk) (names : Names) (old new : Scene Src Snk Dsk) : Type 0 where
  pub why : IsNotCarried source sink disk names old new
  pub unwritten : Replaces (IsEmpty disk) (old.disks names.journal) (new.disks names.journal)

-- What an order to carry left, whatever the status. The disk of the new journal was not touched, or
-- only looked at; or it was empty, and a crash at each moment left what it would have left before,
-- or the whole journal that was worked out, or bytes that are opened as no journal. The old journal
-- was only read. No sink gained anything but that of the lines, and that one only once all was read
-- and worked out.
pub record LeavesCarry {Src Snk Dsk : Type 0} (source : Sources Src) (disk : Disks Dsk)
    (names : Names) (old new : Scene Src Snk Dsk) : Type 0 where
  pub new_disk : WasCarriedTo source disk names old (old.disks names.journal)
      (new.disks names.journal)
  pub old_disk : WasOnlyRead disk (old.disks names.from) (new.disks names.from)
  pub clean : Untouched old.sinks new.sinks
      ⊎ ((out : Scene Src Snk Dsk) × HasPrepared source disk names old out)
  pub sinks : (name : List ℕ) → names.left ≢ Some name → new.sinks name ≡ old.sinks name
