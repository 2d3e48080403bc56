-- The run of `carry`.
use Rattle.std.specs.Prelude.{◌≡◌, ◌⊎◌, ℕ, List, false, is_some, Result, Ok, Err}
use Rattle.outside_io.specs.Places.{Place, Replaces}
use Rattle.outside_io.specs.declared.disks.Disk.{Ghosts as Disks}
use Rattle.outside_io.specs.declared.sinks.Sink.{Ghosts as Sinks}
use Rattle.outside_io.specs.declared.sources.Source.{Ghosts as Sources}
use Rattle.command_reports.specs.declared.exit_status.Status.{Status}
use Rattle.command_reports.specs.declared.exit_status.Status.TheVariants.{Done, Report}
use Rattle.command_reports.specs.Scenes.{ChangesOnlyReport, Scene}
use Rattle.command_reports.specs.Writing.{ReportSays}
use Rattle.command_reports.specs.declared.file_rounds.writing.OutFault.{OutFault}
use Rattle.path_recover.specs.history.Legal.{Register}
use Rattle.path_recover.specs.Beginning.{IsAsItWas, WasEmpty}
use Rattle.command_files.specs.Files.{BaseStep, NetworkStep}
use Rattle.command_files.specs.declared.bases.BaseFile.{BaseFile}
use Rattle.command_files.specs.declared.networks.NetworkFile.{NetworkFile}
use Rattle.command_reports.specs.Reports.{Reports, TellsRefusal}
use Rattle.command_reports.specs.Works.{KeepsTo}
use Rattle.command_reports.specs.declared.refusals.Refusal.{Refusal}
use Rattle.command_files.specs.Timetables.{timetable_on}
use Rattle.carry_command.specs.Before.{BeforeStep}
use Rattle.carry_command.specs.Disks.{EmptyStep, LeavesWhole, WriteStep}
use Rattle.carry_command.specs.Lent.{IsLent, IsReturned}
use Rattle.carry_command.specs.Lines.{left_line}
use Rattle.carry_command.specs.Names.{Names}
use Rattle.carry_command.specs.Olds.{IsOldRead}
use Rattle.carry_command.specs.Prepared.{IsFirstLeft, IsPrepared}
use Rattle.carry_command.specs.Works.{carry_calls, LeftStep, ReadsNetwork}
use Rattle.carry_command.specs.declared.carried_history.reasons.LeftOut.{LeftOut}
use Rattle.carry_command.specs.declared.preparing.Prepared.{Prepared}

-- how the report ended: taken whole, or not
abbrev pub EndsReport : Result (Unit {0}) OutFault → Status → Type 0
EndsReport (Ok _) status = status ≡ Done
EndsReport (Err fault) status = status ≡ Report

-- the line was reported, and the status is Done; or Report where the report failed
pub record ReportsLine {Src Snk Dsk : Type 0} (sink : Sinks Snk) (line : List ℕ)
    (old new : Scene Src Snk Dsk) (status : Status) : Type 0 where
  pub written : Result (Unit {0}) OutFault
  pub says : ReportSays sink line old new written
  pub only : ChangesOnlyReport old new
  pub ends : EndsReport written status

-- what is reported at the end: how many entries were carried, or what refused
abbrev pub EndsRun : {Src Snk Dsk : Type 0} → Sinks Snk → Scene Src Snk Dsk → Scene Src Snk Dsk
    → Result (List ℕ) Refusal → Status → Type 0
EndsRun sink old new (Ok told) status = ReportsLine sink told old new status
EndsRun sink old new (Err refusal) status = TellsRefusal sink refusal old new status

-- All was read, worked out and written in this order, and this was reported; each name was opened
-- as often as the calls say, and all put back.
pub record RunsCarry {Src Snk Dsk : Type 0} (source : Sources Src) (sink : Sinks Snk)
    (disk : Disks Dsk) (names : Names) (old new : Scene Src Snk Dsk) (status : Status)
    : Type 0 where
  pub between : Scene Src Snk Dsk
  pub outcome : Result (List ℕ) Refusal
  pub works : ReadsNetwork source sink disk names old between outcome
  pub keeps : KeepsTo (carry_calls names) old between outcome
  pub ends : EndsRun sink between new outcome status

-- The three files were read, the disk of the new journal was empty, and the old journal was read,
-- each as it stood then; and the disk of the old one is out.
pub record HasRead {Src Snk Dsk : Type 0} (source : Sources Src) (disk : Disks Dsk)
    (names : Names) (old out : Scene Src Snk Dsk) : Type 0 where
  pub network : NetworkFile
  pub base : BaseFile
  pub before : BaseFile
  pub history : Register
  pub first : Scene Src Snk Dsk
  pub second : Scene Src Snk Dsk
  pub third : Scene Src Snk Dsk
  pub fourth : Scene Src Snk Dsk
  pub read_network : NetworkStep source names.network old first (Ok network)
  pub read_base : BaseStep source network.named.network.zones names.base first second (Ok base)
  pub read_before :
      BeforeStep source network.named.network.zones names.from_base second third (Ok before)
  pub was_empty : EmptyStep disk names.journal third fourth (Ok tt)
  pub from_before : Dsk
  pub from_after : Dsk
  pub lent : IsLent names.from from_before fourth out
  pub read_old : IsOldRead disk network before history from_before from_after

-- All was read, and this is what is written of it.
pub record HasPrepared {Src Snk Dsk : Type 0} (source : Sources Src) (disk : Disks Dsk)
    (names : Names) (old out : Scene Src Snk Dsk) : Type 0 where
  pub read : HasRead source disk names old out
  pub prepared : Prepared
  pub is_prepared : IsPrepared read.network read.base read.history (is_some names.left) prepared

-- All was read; the lines of the entries that were left out were written, none where they had no
-- file; then the new journal with all that is carried of the old history; then the disk of the old
-- one was put back, and how many were carried and left out was reported.
pub record IsCarried {Src Snk Dsk : Type 0} (source : Sources Src) (sink : Sinks Snk)
    (disk : Disks Dsk) (names : Names) (old new : Scene Src Snk Dsk) : Type 0 where
  pub out : Scene Src Snk Dsk
  pub has : HasPrepared source disk names old out
  pub fifth : Scene Src Snk Dsk
  pub wrote_left : LeftStep sink names.left has.prepared.lines out fifth (Ok tt)
  pub sixth : Scene Src Snk Dsk
  pub wrote : WriteStep disk has.prepared.file names.journal fifth sixth (Ok tt)
  pub seventh : Scene Src Snk Dsk
  pub returned : IsReturned names.from has.read.from_after sixth seventh
  pub told : ReportSays sink has.prepared.told seventh new (Ok tt)
  pub only : ChangesOnlyReport seventh new

-- All was read, entries that would be left out have no file, and the line of the first of them is
-- what was reported; nothing was written to the disk of the new journal.
pub record IsNotCarried {Src Snk Dsk : Type 0} (source : Sources Src) (sink : Sinks Snk)
    (disk : Disks Dsk) (names : Names) (old new : Scene Src Snk Dsk) : Type 0 where
  pub out : Scene Src Snk Dsk
  pub read : HasRead source disk names old out
  pub no_file : is_some names.left ≡ false
  pub first : LeftOut
  pub is_first : IsFirstLeft (timetable_on read.network read.base) read.history first
  pub seventh : Scene Src Snk Dsk
  pub returned : IsReturned names.from read.from_after out seventh
  pub told : Reports sink (left_line read.history.entries first) seventh new

-- The disk at a place was empty, and at each moment a crash left what it would have left before, or
-- the whole of the journal that this run worked out, or bytes that are told from it by their first
-- byte or are at most one.
pub record LeavesCarried {Src Snk Dsk : Type 0} (source : Sources Src) (disk : Disks Dsk)
    (names : Names) (scene : Scene Src Snk Dsk) (old new : Place Dsk) : Type 0 where
  pub out : Scene Src Snk Dsk
  pub has : HasPrepared source disk names scene out
  pub left : Replaces (λ before after. WasEmpty disk before
      × LeavesWhole disk has.prepared.file before after) old new

-- The disk of the new journal was not touched, or only looked at, or left so.
abbrev pub WasCarriedTo : {Src Snk Dsk : Type 0} → Sources Src → Disks Dsk → Names
    → Scene Src Snk Dsk → Place Dsk → Place Dsk → Type 0
WasCarriedTo source disk names scene old new =
    (new ≡ old) ⊎ (Replaces (IsAsItWas disk) old new
    ⊎ LeavesCarried source disk names scene old new)
