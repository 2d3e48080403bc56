-- The work of `carry`: the network, the base timetable and the base timetable of before are read;
-- the disk of the new journal is found empty; the old journal is read, and while its disk is out,
-- what is left out is written, and then the new journal.
use Rattle.std.specs.Prelude.{◌≡◌, ◌⊎◌, ℕ, List, [], ◌∷◌, ◌++◌, Option, None, Some, is_some, codes}
use Rattle.std.specs.Prelude.{Result, Ok, Err}
use Rattle.outside_io.specs.Openings.{Opening, disk_at, sink_at, source_at}
use Rattle.outside_io.specs.declared.disks.Disk.{Ghosts as Disks}
use Rattle.outside_io.specs.declared.sinks.Sink.{Ghosts as Sinks}
use Rattle.outside_io.specs.declared.sources.Source.{Ghosts as Sources}
use Rattle.command_reports.specs.declared.exit_status.Status.TheVariants.{Report}
use Rattle.command_reports.specs.Refusals.{IsTold, line_with}
use Rattle.command_reports.specs.Scenes.{ChangesOnlySink, Scene}
use Rattle.command_reports.specs.Writing.{TookAll, TookPart}
use Rattle.path_recover.specs.history.Legal.{Register}
use Rattle.command_files.specs.Files.{BaseStep, NetworkStep}
use Rattle.command_files.specs.Outs.{IsNotWritten, Writes}
use Rattle.command_files.specs.declared.bases.BaseFile.{BaseFile}
use Rattle.command_files.specs.declared.networks.NetworkFile.{NetworkFile}
use Rattle.command_reports.specs.Works.{Follows}
use Rattle.command_reports.specs.declared.refusals.Refusal.{Refusal}
use Rattle.carry_command.specs.Before.{BeforeStep}
use Rattle.carry_command.specs.Disks.{EmptyStep, WriteStep}
use Rattle.carry_command.specs.Names.{Names}
use Rattle.carry_command.specs.Olds.{OldStep}
use Rattle.carry_command.specs.Prepared.{Prepares}
use Rattle.carry_command.specs.declared.preparing.Prepared.{Prepared}

-- the lines were written whole; or their file could not be opened, or took a part of them alone
abbrev pub LeftSays : {Src Snk Dsk : Type 0} → Sinks Snk → List ℕ → List ℕ → Scene Src Snk Dsk
    → Scene Src Snk Dsk → Result (Unit {0}) Refusal → Type 0
LeftSays sink name lines old new (Ok _) = Writes (TookAll sink lines) name old new
LeftSays sink name lines old new (Err refusal) =
    IsNotWritten name old new refusal
    ⊎ (Writes (TookPart sink lines) name old new
    × IsTold Report (line_with (codes "left: ") name) refusal)

-- the step that writes lines to a file: it is opened once, and nothing else changes
pub record LinesStep {Src Snk Dsk : Type 0} (sink : Sinks Snk) (name lines : List ℕ)
    (old new : Scene Src Snk Dsk) (result : Result (Unit {0}) Refusal) : Type 0 where
  pub says : LeftSays sink name lines old new result
  pub only : ChangesOnlySink name old new

-- the step that writes the lines of entries that are left out, where they have a file; where they
-- have none, nothing is done
abbrev pub LeftStep : {Src Snk Dsk : Type 0} → Sinks Snk → Option (List ℕ) → List ℕ
    → Scene Src Snk Dsk → Scene Src Snk Dsk → Result (Unit {0}) Refusal → Type 0
LeftStep sink None lines old new result = (new ≡ old) × (result ≡ Ok tt)
LeftStep sink (Some name) lines old new result = LinesStep sink name lines old new result

-- the new journal is written, and the line of the report is kept
abbrev pub WritesJournal : {Src Snk Dsk : Type 0} → Disks Dsk → Names → Prepared
    → Scene Src Snk Dsk → Scene Src Snk Dsk → Result (List ℕ) Refusal → Type 0
WritesJournal disk names prepared old new (Ok told) =
    WriteStep disk prepared.file names.journal old new (Ok tt) × (told ≡ prepared.told)
WritesJournal disk names prepared old new (Err refusal) =
    WriteStep disk prepared.file names.journal old new (Err refusal)

-- the lines of entries that are left out are written, and then the new journal
abbrev pub WritesAll : {Src Snk Dsk : Type 0} → Sinks Snk → Disks Dsk → Names → Prepared
    → Scene Src Snk Dsk → Scene Src Snk Dsk → Result (List ℕ) Refusal → Type 0
WritesAll sink disk names prepared old new result =
    Follows (LeftStep sink names.left prepared.lines)
    (λ (done : Unit {0}). WritesJournal disk names prepared) old new result

-- something is worked out, and the outside is left alone
abbrev pub Finds : {Src Snk Dsk A : Type 0} → (Result A Refusal → Type 0) → Scene Src Snk Dsk
    → Scene Src Snk Dsk → Result A Refusal → Type 0
Finds Says old new result = (new ≡ old) × Says result

-- what is carried of a history is worked out, and then written
abbrev pub CarriesOver : {Src Snk Dsk : Type 0} → Sinks Snk → Disks Dsk → Names → NetworkFile
    → BaseFile → Register → Scene Src Snk Dsk → Scene Src Snk Dsk → Result (List ℕ) Refusal → Type 0
CarriesOver sink disk names network base history old new result =
    Follows (Finds (Prepares network base history (is_some names.left)))
    (λ (prepared : Prepared). WritesAll sink disk names prepared) old new result

-- the old journal is read, and while its disk is out what is carried of it is written
abbrev pub ReadsOld : {Src Snk Dsk : Type 0} → Sinks Snk → Disks Dsk → Names → NetworkFile
    → BaseFile → BaseFile → Scene Src Snk Dsk → Scene Src Snk Dsk → Result (List ℕ) Refusal → Type 0
ReadsOld sink disk names network base before old new result =
    OldStep disk network before names.from (CarriesOver sink disk names network base) old new result

-- the disk of the new journal is found empty, and then the old journal is read
abbrev pub FindsEmpty : {Src Snk Dsk : Type 0} → Sinks Snk → Disks Dsk → Names → NetworkFile
    → BaseFile → BaseFile → Scene Src Snk Dsk → Scene Src Snk Dsk → Result (List ℕ) Refusal → Type 0
FindsEmpty sink disk names network base before old new result =
    Follows (EmptyStep disk names.journal)
    (λ (done : Unit {0}). ReadsOld sink disk names network base before) old new result

-- the base timetable of before is read on the zones of the network, and then the disk looked at
abbrev pub ReadsBefore : {Src Snk Dsk : Type 0} → Sources Src → Sinks Snk → Disks Dsk → Names
    → NetworkFile → BaseFile → Scene Src Snk Dsk → Scene Src Snk Dsk → Result (List ℕ) Refusal
    → Type 0
ReadsBefore source sink disk names network base old new result =
    Follows (BeforeStep source network.named.network.zones names.from_base)
    (λ (before : BaseFile). FindsEmpty sink disk names network base before) old new result

-- the base timetable is read on the zones of the network, and then that of before
abbrev pub ReadsBase : {Src Snk Dsk : Type 0} → Sources Src → Sinks Snk → Disks Dsk → Names
    → NetworkFile → Scene Src Snk Dsk → Scene Src Snk Dsk → Result (List ℕ) Refusal → Type 0
ReadsBase source sink disk names network old new result =
    Follows (BaseStep source network.named.network.zones names.base)
    (λ (base : BaseFile). ReadsBefore source sink disk names network base) old new result

-- The network is read, and then the base timetable.
abbrev pub ReadsNetwork : {Src Snk Dsk : Type 0} → Sources Src → Sinks Snk → Disks Dsk → Names
    → Scene Src Snk Dsk → Scene Src Snk Dsk → Result (List ℕ) Refusal → Type 0
ReadsNetwork source sink disk names old new result =
    Follows (NetworkStep source names.network)
    (λ (network : NetworkFile). ReadsBase source sink disk names network) old new result

-- the opening call of the file for the lines, where there is one
abbrev pub left_calls : Option (List ℕ) → List Opening
left_calls None = []
left_calls (Some name) = sink_at name ∷ []

-- the opening calls while the disk of the old journal is out: the file for the lines, and the disk
-- of the new journal, to be written
abbrev pub writing_calls : Names → List Opening
writing_calls names = left_calls names.left ++ disk_at names.journal ∷ []

-- The opening calls of `carry`, in order, where nothing refuses: the disk of the new journal is
-- opened to look whether it is empty, and again to be written. Where something refuses, a beginning
-- of them.
abbrev pub carry_calls : Names → List Opening
carry_calls names =
    source_at names.network ∷ source_at names.base ∷ source_at names.from_base
    ∷ disk_at names.journal ∷ disk_at names.from ∷ writing_calls names
