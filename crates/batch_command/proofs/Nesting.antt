-- A list over a book, and the streams of its client.
use Rattle.std.proofs.Common.{◌≡◌, ◌∙◌, List, [], ◌∷◌, Option, Result, Ok, Err, inl, inr, sym}
use Rattle.std.proofs.Common.{subst}
use Rattle.outside_io.specs.Openings.{Opening, Opens as CallsOf}
use Rattle.command_reports.specs.Scenes.{Scene}
use Rattle.served_clients.specs.lines.Names.{Names}
use Rattle.served_clients.specs.StreamClients.{pair_calls, pair_loans}
use Rattle.served_clients.specs.Lending.{AreIn, AreOut}
use Rattle.served_clients.specs.Refusing.{IsStopped}
use Rattle.served_clients.proofs.StreamLoans.{as_before, in_calls, in_quiet, out_calls, out_quiet}
use Rattle.served_clients.proofs.StreamStops.{outs_open}
use Rattle.served_clients.proofs.Uses.{Apart, nested_keeps, NestKeeps, sink_used, source_used}
use Rattle.command_line.specs.declared.client_words.clients.ClientWord.{ClientWord}
use Rattle.command_reports.specs.Works.{KeepsTo}
use Rattle.command_reports.specs.declared.refusals.Refusal.{Refusal}
use Rattle.served_clients.specs.book.Ledgers.{Ledger}
use Rattle.served_clients.specs.declared.serve_reports.ends.Ends.{Ends}
use Rattle.served_clients.proofs.Halts.{Unserved, unserved_stopped}
use Rattle.served_clients.specs.RunGhosts.{RunGhosts}
use Rattle.batch_command.specs.Books.{BookSays, HadPair}
use Rattle.batch_command.specs.GivenBatches.{Batch}
use Rattle.batch_command.specs.Lists.{ListSays}

-- no streams were opened
pub record NotOpened {Src Snk Dsk L : Type 0} (ghosts : RunGhosts Src Snk Dsk L) (known : Names) (batch : Batch L) (found : Ledger Dsk) (after : Dsk) (s0 s1 : Scene Src Snk Dsk) (refusal : Refusal) : Type 0 where
  pub says : BookSays ghosts known batch found after s0 s1 (Err refusal)
  pub keeps : KeepsTo {A = Ends} (pair_calls batch.client) s0 s1 (Err refusal)

pub not_opened : {Src Snk Dsk L : Type 0} (ghosts : RunGhosts Src Snk Dsk L) (known : Names) (batch : Batch L) (found : Ledger Dsk) (after : Dsk) (s0 s1 : Scene Src Snk Dsk) (refusal : Refusal)
    → after ≡ found.disk → IsStopped (pair_calls batch.client) s0 s1 refusal → NotOpened ghosts known batch found after s0 s1 refusal
not_opened ghosts known batch found after s0 s1 refusal same stopped =
    let unserved : Unserved Ends (pair_calls batch.client) found after s0 s1 refusal = unserved_stopped Ends (pair_calls batch.client) found after s0 s1 refusal same stopped in
    record { says = inl unserved.says; keeps = unserved.keeps }

-- the source and the sink of a client differ
pair_apart : (client : ClientWord) → Apart (pair_calls client)
pair_apart client = (((λ same. cc), tt), (tt, tt))

-- streams of a client that were opened, used and put back
module _ {Src Snk Dsk : Type 0} (client : ClientWord) (before after : Src × Snk) (s0 s1 s2 : Scene Src Snk Dsk) (outs : AreOut (pair_loans client before) s0 s1) (ins : AreIn (pair_loans client after) s1 s2) where
  pair_used : NestKeeps (source_used client.input before.0 after.0 ∷ sink_used client.output before.1 after.1 ∷ []) s0 s2
  pair_used = nested_keeps (source_used client.input before.0 after.0 ∷ sink_used client.output before.1 after.1 ∷ []) s0 s1 s1 s2 (pair_apart client) outs (as_before s1) ins

  pub had_pair : HadPair client s0 s2 before.0 after.0 before.1 after.1
  had_pair = record {
    opens = outs_open (pair_loans client before) s0 s1 (pair_apart client) outs;
    quiet = in_quiet (pair_loans client after) s1 s2 ins ∙ out_quiet (pair_loans client before) s0 s1 outs;
    source = pair_used.used.0;
    sink = pair_used.used.1.0;
  }

  pair_opened : CallsOf (pair_calls client) s0.opened s2.opened
  pair_opened = subst (λ (made : Option (List Opening)). CallsOf (pair_calls client) s0.opened made) (sym (in_calls (pair_loans client after) s1 s2 ins)) (out_calls (pair_loans client before) s0 s1 outs)

  pub pair_keeps : {A : Type 0} (result : Result A Refusal) → KeepsTo (pair_calls client) s0 s2 result
  pair_keeps (Ok done) = record { keeps = pair_used.keeps; opens = pair_opened }
  pair_keeps (Err refusal) = record { keeps = pair_used.keeps; opens = (2, pair_opened) }

-- what is said of a book, by what is said of the list that was read from the source
pub book_by : {Src Snk Dsk L : Type 0} (ghosts : RunGhosts Src Snk Dsk L) (known : Names) (batch : Batch L) (before after : Src × Snk) (s0 s1 : Scene Src Snk Dsk) (found : Ledger Dsk) (left : Dsk) (result : Result Ends Refusal)
    → HadPair batch.client s0 s1 before.0 after.0 before.1 after.1 → ListSays ghosts known batch found left before.0 after.0 before.1 after.1 result → BookSays ghosts known batch found left s0 s1 result
book_by ghosts known batch before after s0 s1 found left (Ok ends) had says = record { src = before.0; src' = after.0; snk = before.1; snk' = after.1; had = had; answered = says }
book_by ghosts known batch before after s0 s1 found left (Err refusal) had says = inr (record { src = before.0; src' = after.0; snk = before.1; snk' = after.1; had = had; refused = says })
