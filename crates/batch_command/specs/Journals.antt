-- A journal that is opened for a list and put back.
use Rattle.std.specs.Prelude.{◌⊎◌, ℕ, List, ◌∷◌, Result, Ok, Err}
use Rattle.served_clients.specs.StreamClients.{IsExchanged, pair_calls}
use Rattle.served_clients.specs.Refusing.{IsOpen}
use Rattle.command_line.specs.declared.client_words.clients.ClientWord.{ClientWord}
use Rattle.command_reports.specs.Works.{KeepsTo}
use Rattle.command_reports.specs.declared.refusals.Refusal.{Refusal}
use Rattle.command_reports.specs.Scenes.{Scene}
use Rattle.outside_io.specs.Openings.{disk_at}
use Rattle.outside_io.specs.Places.{Untouched}
use Rattle.outside_io.specs.declared.disks.Disk.{Ghosts as Disks}
use Rattle.outside_io.specs.declared.sources.Source.{Ghosts as Sources}
use Rattle.served_clients.specs.book.Ledgers.{Ledger}
use Rattle.served_clients.specs.declared.serve_reports.ends.Ends.{Ends}
use Rattle.served_clients.specs.Files.{known_by}
use Rattle.served_clients.specs.RunGhosts.{RunGhosts}
use Rattle.served_clients.specs.ServedJournals.{IsFound, Remains}
use Rattle.served_clients.specs.Rounds.{DiskHalts, DiskRefuses, IsHalted, IsJournalRefused}
use Rattle.served_clients.specs.Rounds.{IsNotOpened}
use Rattle.served_clients.specs.declared.served_journals.files.Files.{Files}
use Rattle.batch_command.specs.Books.{Answers, Declines}
use Rattle.batch_command.specs.GivenBatches.{Batch}

-- the journal was opened, and the list was answered over it
pub record Serves {Src Snk Dsk L : Type 0} (ghosts : RunGhosts Src Snk Dsk L) (files : Files)
    (name : List ℕ) (batch : Batch L) (old new : Scene Src Snk Dsk) (ends : Ends) : Type 0 where
  pub before : Dsk
  pub after : Dsk
  pub found : Ledger Dsk
  pub name_open : IsOpen old.standing (disk_at name)
  pub exchanged : IsExchanged (old.disks name) (new.disks name) before after
  pub opened : IsFound ghosts.disk files before found
  pub answers : Answers ghosts (known_by files) batch found after old new ends
  pub remains : Remains ghosts.disk files before after found answers.answered.outcome.left

-- the journal was opened, and the list was refused; the journal was only read
pub record Refuses {Src Snk Dsk L : Type 0} (source : Sources Src) (disk : Disks Dsk)
    (files : Files) (name : List ℕ) (batch : Batch L) (old new : Scene Src Snk Dsk)
    (refusal : Refusal) : Type 0 where
  pub before : Dsk
  pub after : Dsk
  pub found : Ledger Dsk
  pub name_open : IsOpen old.standing (disk_at name)
  pub exchanged : IsExchanged (old.disks name) (new.disks name) before after
  pub opened : IsFound disk files before found
  pub declines : Declines source (known_by files) batch found after old new refusal

-- why no list was read; no source or sink changed
pub record Stops {Src Snk Dsk : Type 0} (disk : Disks Dsk) (files : Files) (name : List ℕ)
    (client : ClientWord) (old new : Scene Src Snk Dsk) (refusal : Refusal) : Type 0 where
  pub why : IsNotOpened name old new refusal
      ⊎ (IsJournalRefused disk files name old new refusal
      ⊎ IsHalted disk files name (pair_calls client) old new refusal)
  pub sources : Untouched old.sources new.sources
  pub sinks : Untouched old.sinks new.sinks

-- the list was answered, or why not
abbrev pub BatchSays : {Src Snk Dsk L : Type 0} → RunGhosts Src Snk Dsk L → Files → (name : List ℕ)
    → Batch L → Scene Src Snk Dsk → Scene Src Snk Dsk → Result Ends Refusal → Type 0
BatchSays ghosts files name batch old new (Ok ends) = Serves ghosts files name batch old new ends
BatchSays ghosts files name batch old new (Err refusal) =
    Refuses ghosts.source ghosts.disk files name batch old new refusal
    ⊎ Stops ghosts.disk files name batch.client old new refusal

-- The step that answers: the journal's disk is opened, then the client's streams,
-- each once, and all are put back.
pub record BatchStep {Src Snk Dsk L : Type 0} (ghosts : RunGhosts Src Snk Dsk L) (files : Files)
    (name : List ℕ) (batch : Batch L) (old new : Scene Src Snk Dsk) (result : Result Ends Refusal)
    : Type 0 where
  pub says : BatchSays ghosts files name batch old new result
  pub only : KeepsTo (disk_at name ∷ pair_calls batch.client) old new result

-- *inside*: a disk on which the journal was opened or refused
pub record DiskServes {Src Snk Dsk L : Type 0} (ghosts : RunGhosts Src Snk Dsk L) (files : Files)
    (batch : Batch L) (before after : Dsk) (old new : Scene Src Snk Dsk) (ends : Ends)
    : Type 0 where
  pub found : Ledger Dsk
  pub opened : IsFound ghosts.disk files before found
  pub answers : Answers ghosts (known_by files) batch found after old new ends

-- *inside*: a disk on which the journal was opened, over which the list was refused
pub record DiskDeclines {Src Snk Dsk L : Type 0} (source : Sources Src) (disk : Disks Dsk)
    (files : Files) (batch : Batch L) (before after : Dsk) (old new : Scene Src Snk Dsk)
    (refusal : Refusal) : Type 0 where
  pub found : Ledger Dsk
  pub opened : IsFound disk files before found
  pub declines : Declines source (known_by files) batch found after old new refusal

abbrev pub DiskSays : {Src Snk Dsk L : Type 0} → RunGhosts Src Snk Dsk L → Files → (name : List ℕ)
    → Batch L → Dsk → Dsk → Scene Src Snk Dsk → Scene Src Snk Dsk → Result Ends Refusal → Type 0
DiskSays ghosts files name batch before after old new (Ok ends) =
    DiskServes ghosts files batch before after old new ends
DiskSays ghosts files name batch before after old new (Err refusal) =
    DiskRefuses ghosts.disk files name before after old new refusal
    ⊎ (DiskHalts ghosts.disk files (pair_calls batch.client) before after old new refusal
    ⊎ DiskDeclines ghosts.source ghosts.disk files batch before after old new refusal)
