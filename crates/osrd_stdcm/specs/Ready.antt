-- What stands in the way of nothing: names that are ready, files without a fault, a
-- journal that stands, and no fault.
use Rattle.std.specs.Prelude.{◌≡◌, ◌≤◌, ℕ, List, [], ◌++◌, All, Some, length}
use Rattle.served_clients.specs.StreamClients.{AreDistinct}
use Rattle.command_line.specs.declared.client_words.clients.ClientWord.{ClientWord}
use Rattle.command_files.specs.Files.{HasBaseFault, HasNetworkFault, HasTrainFault, IsBaseFile}
use Rattle.command_files.specs.Files.{IsNetworkFile}
use Rattle.command_files.specs.Kinds.{limit_of}
use Rattle.command_files.specs.declared.bases.BaseFile.{BaseFile}
use Rattle.command_files.specs.declared.files.FileKind.{FileKind}
use Rattle.command_files.specs.declared.files.FileKind.TheVariants as file
use Rattle.command_files.specs.declared.networks.NetworkFile.{NetworkFile}
use Rattle.command_reports.specs.Scenes.{IsReady, Scene}
use Rattle.path_recover.specs.Failing.{IsUnread}
use Rattle.path_recover.specs.Files.{IsRefused}
use Rattle.command_files.specs.Timetables.{timetable_on}
use Rattle.print_commands.specs.Journals.{TellsEntries}
use Rattle.path_recover.specs.declared.journal_reading.faults.OpenFault.{OpenFault}
use Rattle.client_lines.specs.declared.lines.TheConstants.{MAX_LINE_BYTES}
use Rattle.line_sessions.specs.Lines.{ended, HasNoEnd}
use Rattle.line_sessions.specs.declared.sessions.TheConstants.{MAX_LINES}
use Rattle.outside_io.specs.Faults.{Rose}
use Rattle.outside_io.specs.Openings.{Opening, source_at, sink_at, the_report, disk_at}
use Rattle.outside_io.specs.Places.{kept}
use Rattle.outside_io.specs.declared.disks.Disk.{Ghosts as Disks}
use Rattle.outside_io.specs.declared.sinks.Sink.{Ghosts as Sinks}
use Rattle.outside_io.specs.declared.sources.Source.{Ghosts as Sources}
use Rattle.rail_types.specs.declared.entries.Entry.{Entry}

-- ---- names

-- the outside tells the object that the call hands out
abbrev pub IsThere : {Src Snk Dsk : Type 0} → Scene Src Snk Dsk → Opening → Type 0
IsThere {Src} old (source_at name) = (it : Src) × (old.sources name ≡ kept it)
IsThere {Src} {Snk} old (sink_at name) = (it : Snk) × (old.sinks name ≡ kept it)
IsThere {Src} {Snk} old the_report = (it : Snk) × (old.report ≡ kept it)
IsThere {Src} {Snk} {Dsk} old (disk_at name) = (it : Dsk) × (old.disks name ≡ kept it)

-- the count of the object there did not rise
abbrev pub IsQuietAt : {Src Snk Dsk : Type 0} → Sources Src → Sinks Snk → Disks Dsk
    → Scene Src Snk Dsk → Scene Src Snk Dsk → Opening → Type 0
IsQuietAt {Src} source sink disk old new (source_at name) =
    (before after : Src) → old.sources name ≡ kept before → new.sources name ≡ kept after
    → ¬ Rose (source.faults before) (source.faults after)
IsQuietAt {Src} {Snk} source sink disk old new (sink_at name) =
    (before after : Snk) → old.sinks name ≡ kept before → new.sinks name ≡ kept after
    → ¬ Rose (sink.faults before) (sink.faults after)
IsQuietAt {Src} {Snk} source sink disk old new the_report =
    (before after : Snk) → old.report ≡ kept before → new.report ≡ kept after
    → ¬ Rose (sink.faults before) (sink.faults after)
IsQuietAt {Src} {Snk} {Dsk} source sink disk old new (disk_at name) =
    (before after : Dsk) → old.disks name ≡ kept before → new.disks name ≡ kept after
    → ¬ Rose (disk.faults before) (disk.faults after)

-- No two of these calls are the same, each stands ready, the outside tells what it hands
-- out, and no count of that rose.
pub record AreReady {Src Snk Dsk : Type 0} (source : Sources Src) (sink : Sinks Snk)
    (disk : Disks Dsk) (old new : Scene Src Snk Dsk) (calls : List Opening) : Type 0 where
  pub apart : AreDistinct calls
  pub ready : All (λ call. IsReady (old.standing call)) calls
  pub there : All (IsThere old) calls
  pub quiet : All (IsQuietAt source sink disk old new) calls

-- ---- files

-- the source under this name has these bytes left
abbrev pub HasLeft : {Src Snk Dsk : Type 0} → Sources Src → Scene Src Snk Dsk → List ℕ → List ℕ
    → Type 0
HasLeft {Src} source old name bytes =
    (it : Src) × (old.sources name ≡ kept it) × (source.left it ≡ Some bytes)

-- the file under this name has these bytes, which are not too many and have no fault
pub record IsRight {Src Snk Dsk : Type 0} (kind : FileKind) (source : Sources Src)
    (HasFault : List ℕ → List ℕ → Type 0) (old : Scene Src Snk Dsk) (name bytes : List ℕ)
    : Type 0 where
  pub left : HasLeft source old name bytes
  pub short : length bytes ≤ limit_of kind
  pub right : (text : List ℕ) → ¬ HasFault bytes text

-- so are a network's file, and a base timetable's on the zones of that network
pub record AreRight {Src Snk Dsk : Type 0} (source : Sources Src) (old : Scene Src Snk Dsk)
    (network base : List ℕ) : Type 0 where
  pub network_bytes : List ℕ
  pub base_bytes : List ℕ
  pub network_right : IsRight file.Network source HasNetworkFault old network network_bytes
  pub base_right : (read : NetworkFile) → IsNetworkFile network_bytes read
      → IsRight file.Base source (HasBaseFault read.named.network.zones) old base base_bytes

-- so is a train file
pub record HasTrains {Src Snk Dsk : Type 0} (source : Sources Src) (old : Scene Src Snk Dsk)
    (trains : List ℕ) : Type 0 where
  pub bytes : List ℕ
  pub right : IsRight file.Trains source HasTrainFault old trains bytes

-- ---- disks

-- the disk under this name is empty
abbrev pub IsEmptyDisk : {Src Snk Dsk : Type 0} → Disks Dsk → Scene Src Snk Dsk → List ℕ → Type 0
IsEmptyDisk {Src} {Snk} {Dsk} disk old name =
    (it : Dsk) × (old.disks name ≡ kept it) × (disk.contents it ≡ Some [])

-- the disk under this name has a journal of these files, with some legal history
pub record HasJournal {Src Snk Dsk : Type 0} (disk : Disks Dsk) (old : Scene Src Snk Dsk)
    (name : List ℕ) (network : NetworkFile) (base : BaseFile) : Type 0 where
  pub it : Dsk
  pub there : old.disks name ≡ kept it
  pub contents : List ℕ
  pub holds : disk.contents it ≡ Some contents
  pub entries : List Entry
  pub tells : TellsEntries network base entries contents

-- the same, of the network and the base timetable that these bytes tell
abbrev pub HasJournalOf : {Src Snk Dsk : Type 0} → Disks Dsk → Scene Src Snk Dsk → List ℕ
    → (network_bytes base_bytes : List ℕ) → Type 0
HasJournalOf disk old name network_bytes base_bytes =
    (network : NetworkFile) (base : BaseFile) → IsNetworkFile network_bytes network
    → IsBaseFile network.named.network.zones base_bytes base
    → HasJournal disk old name network base

-- the disk under this name has a journal of version 1 of these files: its bytes are not refused
pub record HasOldJournal {Src Snk Dsk : Type 0} (disk : Disks Dsk) (old : Scene Src Snk Dsk)
    (name : List ℕ) (network : NetworkFile) (base : BaseFile) : Type 0 where
  pub it : Dsk
  pub there : old.disks name ≡ kept it
  pub contents : List ℕ
  pub holds : disk.contents it ≡ Some contents
  pub stands : (fault : OpenFault)
      → IsRefused (timetable_on network base) 1 network.digest base.digest contents fault
      → IsUnread fault

-- the same, of the network and the base timetable that these bytes tell
abbrev pub HasOldJournalOf : {Src Snk Dsk : Type 0} → Disks Dsk → Scene Src Snk Dsk → List ℕ
    → (network_bytes base_bytes : List ℕ) → Type 0
HasOldJournalOf disk old name network_bytes base_bytes =
    (network : NetworkFile) (base : BaseFile) → IsNetworkFile network_bytes network
    → IsBaseFile network.named.network.zones base_bytes base
    → HasOldJournal disk old name network base

-- ---- lines

-- an input whose lines are not too long and not too many: wherever one begins the bytes before an
-- end are at most so many, and behind so many lines nothing comes
pub record IsWithinLines (input : List ℕ) : Type 0 where
  pub short : (lines : List (List ℕ)) (line rest : List ℕ) → input ≡ ended lines ++ (line ++ rest)
      → HasNoEnd line → length line ≤ MAX_LINE_BYTES
  pub few : (lines : List (List ℕ)) (rest : List ℕ) → input ≡ ended lines ++ rest
      → length lines ≡ MAX_LINES → rest ≡ []

-- the input of a client, which the outside tells, is such
pub record HasLines {Src Snk Dsk : Type 0} (source : Sources Src) (old : Scene Src Snk Dsk)
    (client : ClientWord) : Type 0 where
  pub input : List ℕ
  pub left : HasLeft source old client.input input
  pub within : IsWithinLines input
