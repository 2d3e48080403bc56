-- What a list over an opened journal comes to: its streams are opened, used, and put back.
use Rattle.std.specs.Prelude.{◌≡◌, ◌⊎◌, All, Result, Ok, Err}
use Rattle.served_clients.specs.lines.Names.{Names}
use Rattle.served_clients.specs.StreamClients.{IsExchanged, pair_calls}
use Rattle.served_clients.specs.Refusing.{IsOpen}
use Rattle.command_line.specs.declared.client_words.clients.ClientWord.{ClientWord}
use Rattle.command_reports.specs.declared.refusals.Refusal.{Refusal}
use Rattle.command_reports.specs.Scenes.{Scene}
use Rattle.outside_io.specs.declared.sources.Source.{Ghosts as Sources}
use Rattle.served_clients.specs.book.Ledgers.{Ledger}
use Rattle.served_clients.specs.declared.serve_reports.ends.Ends.{Ends}
use Rattle.served_clients.specs.RunGhosts.{RunGhosts}
use Rattle.served_clients.specs.Rounds.{IsUnserved}
use Rattle.batch_command.specs.GivenBatches.{Batch}
use Rattle.batch_command.specs.Lists.{IsAnswered, IsRefused}

-- the source and the sink of a client were opened, came to this, and were
-- put back, each under its name
pub record HadPair {Src Snk Dsk : Type 0} (client : ClientWord) (old new : Scene Src Snk Dsk)
    (src src' : Src) (snk snk' : Snk) : Type 0 where
  pub opens : All (IsOpen old.standing) (pair_calls client)
  pub quiet : new.faults ≡ old.faults
  pub source : IsExchanged (old.sources client.input) (new.sources client.input) src src'
  pub sink : IsExchanged (old.sinks client.output) (new.sinks client.output) snk snk'

-- the list of a client was answered over the book that was found
pub record Answers {Src Snk Dsk L : Type 0} (ghosts : RunGhosts Src Snk Dsk L) (known : Names)
    (batch : Batch L) (found : Ledger Dsk) (after : Dsk) (old new : Scene Src Snk Dsk) (ends : Ends)
    : Type 0 where
  pub src : Src
  pub src' : Src
  pub snk : Snk
  pub snk' : Snk
  pub had : HadPair batch.client old new src src' snk snk'
  pub answered : IsAnswered ghosts known batch found after src src' snk snk' ends

-- the list of a client was refused, once its streams were opened
pub record Declines {Src Snk Dsk L : Type 0} (source : Sources Src) (known : Names)
    (batch : Batch L) (found : Ledger Dsk) (after : Dsk) (old new : Scene Src Snk Dsk)
    (refusal : Refusal) : Type 0 where
  pub src : Src
  pub src' : Src
  pub snk : Snk
  pub snk' : Snk
  pub had : HadPair batch.client old new src src' snk snk'
  pub refused : IsRefused source known batch found after src src' snk snk' refusal

-- what is said of a book over which a list is answered
abbrev pub BookSays : {Src Snk Dsk L : Type 0} → RunGhosts Src Snk Dsk L → Names → Batch L
    → Ledger Dsk → Dsk → Scene Src Snk Dsk → Scene Src Snk Dsk → Result Ends Refusal → Type 0
BookSays ghosts known batch found after old new (Ok ends) =
    Answers ghosts known batch found after old new ends
BookSays ghosts known batch found after old new (Err refusal) =
    IsUnserved (pair_calls batch.client) found after old new refusal
    ⊎ Declines ghosts.source known batch found after old new refusal
