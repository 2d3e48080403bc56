-- A journal that is opened, served and put back.
use Rattle.std.specs.Prelude.{◌⊎◌, ℕ, List, ◌∷◌, Result, Ok, Err}
use Rattle.request_server.specs.PlannedClients.{client_calls}
use Rattle.served_clients.specs.StreamClients.{IsExchanged}
use Rattle.served_clients.specs.Refusing.{IsOpen}
use Rattle.command_reports.specs.Works.{KeepsTo}
use Rattle.command_reports.specs.declared.refusals.Refusal.{Refusal}
use Rattle.command_reports.specs.Scenes.{Scene}
use Rattle.outside_io.specs.Openings.{disk_at, Opening}
use Rattle.outside_io.specs.Places.{Untouched}
use Rattle.outside_io.specs.declared.disks.Disk.{Ghosts as Disks}
use Rattle.served_clients.specs.book.Ledgers.{Ledger}
use Rattle.served_clients.specs.declared.serve_reports.ends.Ends.{Ends}
use Rattle.request_server.specs.Clienteles.{Clientele}
use Rattle.served_clients.specs.Files.{known_by}
use Rattle.served_clients.specs.RunGhosts.{RunGhosts}
use Rattle.served_clients.specs.ServedJournals.{IsFound, Remains}
use Rattle.served_clients.specs.Rounds.{DiskHalts, DiskRefuses, IsHalted, IsJournalRefused}
use Rattle.served_clients.specs.Rounds.{IsNotOpened}
use Rattle.served_clients.specs.declared.served_journals.files.Files.{Files}
use Rattle.request_server.specs.Serving.{IsServing}

-- why no client was served; no source or sink changed
pub record Refuses {Src Snk Dsk : Type 0} (disk : Disks Dsk) (files : Files) (name : List ℕ)
    (calls : List Opening) (old new : Scene Src Snk Dsk) (refusal : Refusal) : Type 0 where
  pub why : IsNotOpened name old new refusal
      ⊎ (IsJournalRefused disk files name old new refusal
      ⊎ IsHalted disk files name calls old new refusal)
  pub sources : Untouched old.sources new.sources
  pub sinks : Untouched old.sinks new.sinks

-- the journal was opened, and the clients were served over it
pub record Serves {Src Snk Dsk L : Type 0} (ghosts : RunGhosts Src Snk Dsk L) (files : Files)
    (name : List ℕ) (clientele : Clientele L) (old new : Scene Src Snk Dsk) (ends : Ends)
    : Type 0 where
  pub before : Dsk
  pub after : Dsk
  pub found : Ledger Dsk
  pub name_open : IsOpen old.standing (disk_at name)
  pub exchanged : IsExchanged (old.disks name) (new.disks name) before after
  pub opened : IsFound ghosts.disk files before found
  pub serving : IsServing ghosts (known_by files) clientele found after old new ends
  pub remains : Remains ghosts.disk files before after found serving.left

-- the clients were served, or why not
abbrev pub ServeSays : {Src Snk Dsk L : Type 0} → RunGhosts Src Snk Dsk L → Files → List ℕ
    → Clientele L → Scene Src Snk Dsk → Scene Src Snk Dsk → Result Ends Refusal → Type 0
ServeSays ghosts files name clientele old new (Ok ends) =
    Serves ghosts files name clientele old new ends
ServeSays ghosts files name clientele old new (Err refusal) =
    Refuses ghosts.disk files name (client_calls clientele.clients clientele.proofs) old new refusal

-- The step that serves: the journal's disk is opened, then the clients' streams,
-- each once, and all are put back.
pub record ServeStep {Src Snk Dsk L : Type 0} (ghosts : RunGhosts Src Snk Dsk L) (files : Files)
    (name : List ℕ) (clientele : Clientele L) (old new : Scene Src Snk Dsk)
    (result : Result Ends Refusal) : Type 0 where
  pub says : ServeSays ghosts files name clientele old new result
  pub only : KeepsTo (disk_at name ∷ client_calls clientele.clients clientele.proofs)
      old new result

-- *inside*: a disk on which the journal was opened or refused
pub record DiskServes {Src Snk Dsk L : Type 0} (ghosts : RunGhosts Src Snk Dsk L) (files : Files)
    (clientele : Clientele L) (before after : Dsk) (old new : Scene Src Snk Dsk) (ends : Ends)
    : Type 0 where
  pub found : Ledger Dsk
  pub opened : IsFound ghosts.disk files before found
  pub serving : IsServing ghosts (known_by files) clientele found after old new ends

abbrev pub DiskSays : {Src Snk Dsk L : Type 0} → RunGhosts Src Snk Dsk L → Files → List ℕ
    → Clientele L → Dsk → Dsk → Scene Src Snk Dsk → Scene Src Snk Dsk → Result Ends Refusal
    → Type 0
DiskSays ghosts files name clientele before after old new (Ok ends) =
    DiskServes ghosts files clientele before after old new ends
DiskSays ghosts files name clientele before after old new (Err refusal) =
    DiskRefuses ghosts.disk files name before after old new refusal
    ⊎ DiskHalts ghosts.disk files (client_calls clientele.clients clientele.proofs)
    before after old new refusal
