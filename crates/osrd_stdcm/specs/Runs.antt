-- What a run does, by its words.
use Rattle.std.specs.Prelude.{◌⊎◌, ℕ, List, [], codes}
use Rattle.admission_rules.specs.declared.rules.Rule.{Ghosts as Rules}
use Rattle.admission_rules.specs.declared.client_rules.clients.ClientRules.{ClientRules}
use Rattle.command_reports.specs.declared.exit_status.Status.{Status}
use Rattle.command_reports.specs.declared.exit_status.Status.TheVariants.{Words}
use Rattle.outside_io.specs.declared.disks.Disk.{Ghosts as Disks}
use Rattle.outside_io.specs.declared.sinks.Sink.{Ghosts as Sinks}
use Rattle.outside_io.specs.declared.sources.Source.{Ghosts as Sources}
use Rattle.command_line.specs.Spelling.{Word}
use Rattle.command_words.specs.Orders.{AreWords}
use Rattle.command_words.specs.declared.orders.Order.{Order}
use Rattle.command_reports.specs.Scenes.{ChangesOnlyReport, Scene}
use Rattle.command_reports.specs.Refusals.{IsTold, line_with}
use Rattle.command_reports.specs.Reports.{TellsRefusal}
use Rattle.command_reports.specs.declared.refusals.Refusal.{Refusal}
use Rattle.command_reports.specs.declared.refusals.Refusal.TheVariants.{Memory}
use Rattle.osrd_stdcm.specs.Orders.{HasNoClients, NamesNoDisk, NamesNoLeft, OrderIsDone}
use Rattle.osrd_stdcm.specs.Orders.{OrderIsRefused, OrderLeaves, OrderSays}

-- words that spell no order
abbrev pub AskNothing : List Word → Type 0
AskNothing words = (order : Order) → AreWords words order → ⊥

-- words of which no order has a disk of this name
abbrev pub AskNoDisk : List Word → List ℕ → Type 0
AskNoDisk words name = (order : Order) → AreWords words order → NamesNoDisk order name

-- words of which no order serves clients
abbrev pub AskNoClients : List Word → Type 0
AskNoClients words = (order : Order) → AreWords words order → HasNoClients order

-- words of which no order has a file of this name for lines of entries that are left out
abbrev pub AskNoLeft : List Word → List ℕ → Type 0
AskNoLeft words name = (order : Order) → AreWords words order → NamesNoLeft order name

-- the words spell an order, and it was carried out with these rules of clients
pub record Obeys {Src Snk Dsk L : Type 0} (source : Sources Src) (sink : Sinks Snk)
    (disk : Disks Dsk) (kind : Rules L) (handed : List (ClientRules L)) (words : List Word)
    (old new : Scene Src Snk Dsk) (status : Status) : Type 0 where
  pub order : Order
  pub asked : AreWords words order
  pub says : OrderSays source sink disk kind handed order old new status

-- this was reported: the words are not understood; a line may want memory
pub record TellsWords {Src Snk Dsk : Type 0} (sink : Sinks Snk) (old new : Scene Src Snk Dsk)
    (status : Status) : Type 0 where
  pub refusal : Refusal
  pub told : IsTold Words (line_with (codes "words not understood") []) refusal
  pub tells : TellsRefusal sink refusal old new status

-- the words spell no order, and this was reported
pub record Refuses {Src Snk Dsk : Type 0} (sink : Sinks Snk) (words : List Word)
    (old new : Scene Src Snk Dsk) (status : Status) : Type 0 where
  pub asked : AskNothing words
  pub tells : TellsWords sink old new status

-- what a run does: the order of the words; or it refuses the words; or memory was wanted for them
abbrev pub RunSays : {Src Snk Dsk L : Type 0} → Sources Src → Sinks Snk → Disks Dsk → Rules L
    → List (ClientRules L) → List Word → Scene Src Snk Dsk → Scene Src Snk Dsk → Status → Type 0
RunSays source sink disk kind handed words old new status =
    Obeys source sink disk kind handed words old new status
    ⊎ (Refuses sink words old new status ⊎ TellsRefusal sink Memory old new status)

-- the words spell an order, and all that it asks for was done, with these rules of clients
pub record IsDone {Src Snk Dsk L : Type 0} (source : Sources Src) (sink : Sinks Snk)
    (disk : Disks Dsk) (kind : Rules L) (handed : List (ClientRules L)) (words : List Word)
    (old new : Scene Src Snk Dsk) : Type 0 where
  pub order : Order
  pub asked : AreWords words order
  pub done : OrderIsDone source sink disk kind handed order old new

-- the words spell an order, and its command's own no was answered, for this reason
pub record IsRefused {Src Snk Dsk : Type 0} (source : Sources Src) (sink : Sinks Snk)
    (disk : Disks Dsk) (words : List Word) (old new : Scene Src Snk Dsk) : Type 0 where
  pub order : Order
  pub asked : AreWords words order
  pub refused : OrderIsRefused source sink disk order old new

-- the words spell an order, and this is what it left under names
pub record Leaves {Src Snk Dsk : Type 0} (source : Sources Src) (disk : Disks Dsk)
    (words : List Word) (old new : Scene Src Snk Dsk) : Type 0 where
  pub order : Order
  pub asked : AreWords words order
  pub leaves : OrderLeaves source disk order old new

-- what a run left: nothing changed but the report; or what the order of the words left
abbrev pub RunLeaves : {Src Snk Dsk : Type 0} → Sources Src → Disks Dsk → List Word
    → Scene Src Snk Dsk → Scene Src Snk Dsk → Type 0
RunLeaves source disk words old new =
    ChangesOnlyReport old new ⊎ Leaves source disk words old new
