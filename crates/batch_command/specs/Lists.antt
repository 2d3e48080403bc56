-- A list that is read, answered and written, over the book of a journal.
use Rattle.std.specs.Prelude.{◌≡◌, ◌⊎◌, ℕ, List, Option, None, Some, map, Result, Ok, Err}
use Rattle.batch_command.specs.GivenBatches.{Batch}
use Rattle.batch_command.specs.Ends.{IsEnds}
use Rattle.batch_command.specs.Flaws.{TellsStop}
use Rattle.batch_command.specs.Batches.{WereAnswered}
use Rattle.batch_command.specs.declared.batch_server.members.Member.{Member}
use Rattle.batch_command.specs.declared.batch_server.members.Worked.{Worked}
use Rattle.command_line.specs.Workers.{worker_names}
use Rattle.served_clients.specs.lines.Names.{Names}
use Rattle.served_clients.specs.admission.Clients.{rules_named}
use Rattle.served_clients.specs.admission.declared.client_rules.clients.ClientRules.{ClientRules}
use Rattle.command_reports.specs.declared.refusals.Refusal.{Refusal}
use Rattle.served_clients.specs.sessions.declared.sessions.Ended.{Ended}
use Rattle.served_clients.specs.sessions.declared.sessions.Why.TheVariants.{Memory}
use Rattle.batch_command.specs.LineLists.{IsWhole, Refuses}
use Rattle.batch_command.specs.declared.list_lines.lists.ListFault.{ListFault}
use Rattle.batch_command.specs.Writing.{Writes}
use Rattle.outside_io.specs.declared.betweens.NoBetween.{NoBetween}
use Rattle.outside_io.specs.declared.sinks.Sink.{Ghosts as Sinks}
use Rattle.outside_io.specs.declared.sources.Source.{Ghosts as Sources}
use Rattle.served_clients.specs.book.Footings.{footing_of}
use Rattle.served_clients.specs.book.Ledgers.{Ledger}
use Rattle.served_clients.specs.declared.serve_reports.ends.Ends.{Ends}
use Rattle.served_clients.specs.RunGhosts.{RunGhosts}
use Rattle.served_clients.specs.ServedJournals.{IsClosed}
use Rattle.batch_command.specs.Owners.{owners_of}
use Rattle.batch_command.specs.Asked.{HasFlaw, IsAsked}

-- the texts of the replies were written, one after another; without texts memory was
-- wanted, and nothing was written
abbrev pub WritesTexts : {Snk : Type 0} → Sinks Snk → Option (List (List ℕ)) → Snk → Snk → Ended
    → Type 0
WritesTexts sink (Some texts) before after ended = Writes sink texts before after ended
WritesTexts sink None before after ended =
    (after ≡ before) × (ended ≡ record { lines = 0; why = Memory })

-- the workers of a batch, in order, each with the rules in the elements with its name
pub record AreMembers {Btw L : Type 0} (batch : List ℕ) (workers : ℕ)
    (rules : List (ClientRules L)) (members : List (Member Btw L)) : Type 0 where
  pub names : map (λ member. member.name) members ≡ worker_names batch workers
  pub given : map (λ member. member.rules.items) members
      ≡ map (λ name. rules_named name rules) (worker_names batch workers)

-- Lines without a flaw were answered by the workers over the book that was found: a line whose
-- number stands there under the name of a worker by the first such one, before its others. The
-- replies were written in the order of the list, and these are the ends. The workers are told
-- without what happens between searches, on which nothing that is told depends.
pub record AreAnswered {Src Snk Dsk L : Type 0} (ghosts : RunGhosts Src Snk Dsk L) (known : Names)
    (batch : Batch L) (lines : List (List ℕ)) (found : Ledger Dsk) (after : Dsk) (snk snk' : Snk)
    (ends : Ends) : Type 0 where
  pub left : Ledger Dsk
  pub numbers : List (Option ℕ)
  pub members : List (Member NoBetween L)
  pub worked : List (Worked L)
  pub texts : Option (List (List ℕ))
  pub written : Ended
  pub asked : IsAsked known batch.client.client batch.workers found.entries lines numbers
  pub members_are : AreMembers batch.client.client batch.workers batch.rules members
  pub answered : WereAnswered ghosts.rule ghosts.disk.faults known lines
      (owners_of found.entries (worker_names batch.client.client batch.workers) numbers)
      found left members worked texts
  pub writes : WritesTexts ghosts.sink texts snk snk' written
  pub footing : footing_of left ≡ footing_of found
  pub closed : IsClosed ghosts.disk left after
  pub ends_are : IsEnds ghosts.rule batch.client.client written worked ends

-- the list was read as a whole, and its lines were answered and the replies written
pub record IsAnswered {Src Snk Dsk L : Type 0} (ghosts : RunGhosts Src Snk Dsk L) (known : Names)
    (batch : Batch L) (found : Ledger Dsk) (after : Dsk) (src src' : Src) (snk snk' : Snk)
    (ends : Ends) : Type 0 where
  pub lines : List (List ℕ)
  pub read : IsWhole ghosts.source src src' lines
  pub outcome : AreAnswered ghosts known batch lines found after snk snk' ends

-- the list was not read, and this is told
pub record IsUnread {Src : Type 0} (source : Sources Src) (batch : List ℕ) (src src' : Src)
    (refusal : Refusal) : Type 0 where
  pub fault : ListFault
  pub refuses : Refuses source src src' fault
  pub told : TellsStop batch fault refusal

-- the list was read as a whole and has a flaw, which is told, or memory was wanted
pub record IsFlawed {Src Dsk : Type 0} (source : Sources Src) (known : Names) (batch : List ℕ)
    (workers : ℕ) (found : Ledger Dsk) (src src' : Src) (refusal : Refusal) : Type 0 where
  pub lines : List (List ℕ)
  pub read : IsWhole source src src' lines
  pub flaw : HasFlaw known batch workers found.entries lines refusal

-- Nobody answered: the list was not read, or it has a flaw, or memory was
-- wanted. Nothing was written.
pub record IsRefused {Src Snk Dsk L : Type 0} (source : Sources Src) (known : Names)
    (batch : Batch L) (found : Ledger Dsk) (after : Dsk) (src src' : Src) (snk snk' : Snk)
    (refusal : Refusal) : Type 0 where
  pub disk_is : after ≡ found.disk
  pub unwritten : snk' ≡ snk
  pub why : IsUnread source batch.client.client src src' refusal
      ⊎ IsFlawed source known batch.client.client batch.workers found src src' refusal

-- what is said of a list over a book
abbrev pub ListSays : {Src Snk Dsk L : Type 0} → RunGhosts Src Snk Dsk L → Names → Batch L
    → Ledger Dsk → Dsk → Src → Src → Snk → Snk → Result Ends Refusal → Type 0
ListSays ghosts known batch found after src src' snk snk' (Ok ends) =
    IsAnswered ghosts known batch found after src src' snk snk' ends
ListSays ghosts known batch found after src src' snk snk' (Err refusal) =
    IsRefused ghosts.source known batch found after src src' snk snk' refusal

-- ---- *inside*

-- these lines have a flaw, or memory was wanted
pub record AreRefused {Snk Dsk : Type 0} (known : Names) (batch : List ℕ) (workers : ℕ)
    (lines : List (List ℕ)) (found : Ledger Dsk) (after : Dsk) (snk snk' : Snk)
    (refusal : Refusal) : Type 0 where
  pub disk_is : after ≡ found.disk
  pub unwritten : snk' ≡ snk
  pub flaw : HasFlaw known batch workers found.entries lines refusal

-- what is said of the lines of a list over a book
abbrev pub LinesSay : {Src Snk Dsk L : Type 0} → RunGhosts Src Snk Dsk L → Names → Batch L
    → List (List ℕ) → Ledger Dsk → Dsk → Snk → Snk → Result Ends Refusal → Type 0
LinesSay ghosts known batch lines found after snk snk' (Ok ends) =
    AreAnswered ghosts known batch lines found after snk snk' ends
LinesSay ghosts known batch lines found after snk snk' (Err refusal) =
    AreRefused known batch.client.client batch.workers lines found after snk snk' refusal
