-- When a run is done, or answers its command's own no, but for want of memory.
use Rattle.std.specs.Prelude.{◌≡◌, ◌⊎◌, ℕ, List, [], ◌∷◌, ◌++◌, All, None, Some}
use Rattle.batch_command.specs.Works.{batch_calls}
use Rattle.carry_command.specs.Names.{Names}
use Rattle.carry_command.specs.Works.{left_calls}
use Rattle.check_command.specs.Works.{check_calls}
use Rattle.command_words.specs.Orders.{AreWords}
use Rattle.command_words.specs.declared.orders.Order.{Order}
use Rattle.command_words.specs.declared.orders.Order.TheVariants.{Tables, Init, Stairs, Capacity}
use Rattle.command_words.specs.declared.orders.Order.TheVariants.{Serve, Demo, Check, Batch, Carry}
use Rattle.command_files.specs.Files.{HasBaseFault, HasNetworkFault, IsNetworkFile}
use Rattle.command_files.specs.declared.files.FileKind.TheVariants as file
use Rattle.command_files.specs.declared.networks.NetworkFile.{NetworkFile}
use Rattle.demo_command.specs.Works.{demo_calls}
use Rattle.command_reports.specs.declared.exit_status.Status.{Status}
use Rattle.command_reports.specs.declared.exit_status.Status.TheVariants.{Done, No, Memory}
use Rattle.command_reports.specs.Scenes.{Scene}
use Rattle.init_command.specs.Works.{init_calls, move_calls}
use Rattle.print_commands.specs.Steps.{print_calls}
use Rattle.print_commands.specs.Works.{list_calls}
use Rattle.command_line.specs.Spelling.{Word}
use Rattle.outside_io.specs.Openings.{disk_at, Opening, source_at, the_report}
use Rattle.outside_io.specs.declared.disks.Disk.{Ghosts as Disks}
use Rattle.outside_io.specs.declared.sinks.Sink.{Ghosts as Sinks}
use Rattle.outside_io.specs.declared.sources.Source.{Ghosts as Sources}
use Rattle.served_clients.specs.GivenNames.{given_names}
use Rattle.request_server.specs.Works.{serve_calls}
use Rattle.osrd_stdcm.specs.Carries.{carry_names}
use Rattle.osrd_stdcm.specs.Ready.{AreReady, AreRight, HasJournalOf, HasLines, HasOldJournalOf}
use Rattle.osrd_stdcm.specs.Ready.{HasTrains, IsEmptyDisk, IsRight}

-- the files of a command over a journal are right, and the journal stands
pub record AreRightWithJournal {Src Snk Dsk : Type 0} (source : Sources Src) (disk : Disks Dsk)
    (old : Scene Src Snk Dsk) (network base journal : List ℕ) : Type 0 where
  pub files : AreRight source old network base
  pub journal_stands : HasJournalOf disk old journal files.network_bytes files.base_bytes

-- the files of `carry` are right, and the old journal stands, by the base timetable of before
pub record AreRightToCarry {Src Snk Dsk : Type 0} (source : Sources Src) (disk : Disks Dsk)
    (old : Scene Src Snk Dsk) (names : Names) : Type 0 where
  pub files : AreRight source old names.network names.base
  pub before_bytes : List ℕ
  pub before_right : (read : NetworkFile) → IsNetworkFile files.network_bytes read
      → IsRight file.Base source (HasBaseFault read.named.network.zones) old names.from_base
      before_bytes
  pub from_stands : HasJournalOf disk old names.from files.network_bytes before_bytes

-- the opening calls of `carry`, each once: the disk of the new journal is opened twice
abbrev pub once_each : Names → List Opening
once_each names =
    source_at names.network ∷ source_at names.base ∷ source_at names.from_base
    ∷ disk_at names.journal ∷ disk_at names.from ∷ left_calls names.left

-- nothing hinders an order to carry
pub record IsCarryUnhindered {Src Snk Dsk : Type 0} (source : Sources Src) (sink : Sinks Snk)
    (disk : Disks Dsk) (old new : Scene Src Snk Dsk) (names : Names) : Type 0 where
  pub ready : AreReady source sink disk old new (once_each names ++ the_report ∷ [])
  pub empty : IsEmptyDisk disk old names.journal
  pub right : AreRightToCarry source disk old names

-- Nothing hinders an order: each name of it and the report stand ready when their turn comes, the
-- files have no fault, the journal stands, or the disk is empty where one is begun, the clients
-- keep within the limits of lines, and no count rose.
abbrev pub IsUnhindered : {Src Snk Dsk : Type 0} → Sources Src → Sinks Snk → Disks Dsk
    → Scene Src Snk Dsk → Scene Src Snk Dsk → Order → Type 0
IsUnhindered source sink disk old new (Tables network out) =
    AreReady source sink disk old new (list_calls network out ++ the_report ∷ [])
    × ((bytes : List ℕ) × IsRight file.Network source HasNetworkFault old network bytes)
IsUnhindered source sink disk old new (Init network base journal None) =
    AreReady source sink disk old new (init_calls network base journal ++ the_report ∷ [])
    × AreRight source old network base × IsEmptyDisk disk old journal
IsUnhindered source sink disk old new (Init network base journal (Some from)) =
    AreReady source sink disk old new (move_calls network base journal from ++ the_report ∷ [])
    × IsEmptyDisk disk old journal
    × ((files : AreRight source old network base)
    × HasOldJournalOf disk old from files.network_bytes files.base_bytes)
IsUnhindered source sink disk old new (Stairs network base journal entry out) =
    AreReady source sink disk old new (print_calls network base journal out ++ the_report ∷ [])
    × AreRightWithJournal source disk old network base journal
IsUnhindered source sink disk old new (Capacity network base journal first last from to out) =
    AreReady source sink disk old new (print_calls network base journal out ++ the_report ∷ [])
    × AreRightWithJournal source disk old network base journal
IsUnhindered source sink disk old new (Serve network trains base journal clients proofs rules) =
    AreReady source sink disk old new
    (serve_calls (given_names network trains base journal) clients proofs ++ the_report ∷ [])
    × HasTrains source old trains × AreRightWithJournal source disk old network base journal
    × All (HasLines source old) clients
IsUnhindered source sink disk old new (Demo number out) =
    AreReady source sink disk old new (demo_calls out ++ the_report ∷ [])
IsUnhindered source sink disk old new (Check network trains base journal proof) =
    AreReady source sink disk old new
    (check_calls network trains base journal proof ++ the_report ∷ [])
    × HasTrains source old trains × AreRightWithJournal source disk old network base journal
IsUnhindered source sink disk old new (Batch network trains base journal client workers rules) =
    AreReady source sink disk old new
    (batch_calls (given_names network trains base journal) client ++ the_report ∷ [])
    × HasTrains source old trains × AreRightWithJournal source disk old network base journal
    × HasLines source old client
IsUnhindered source sink disk old new (Carry network base journal from from_base left) =
    IsCarryUnhindered source sink disk old new
    (carry_names network base journal from from_base left)

-- the words spell an order, and nothing hinders any order that they spell
pub record AreUnhindered {Src Snk Dsk : Type 0} (source : Sources Src) (sink : Sinks Snk)
    (disk : Disks Dsk) (old new : Scene Src Snk Dsk) (words : List Word) : Type 0 where
  pub order : Order
  pub asked : AreWords words order
  pub unhindered : (other : Order) → AreWords words other
      → IsUnhindered source sink disk old new other

-- all was done, or the command's own no was answered, or memory was wanted
abbrev pub IsAnswered : Status → Type 0
IsAnswered status = (status ≡ Done) ⊎ ((status ≡ No) ⊎ (status ≡ Memory))
