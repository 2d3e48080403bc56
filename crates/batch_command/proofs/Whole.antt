-- A list that was read as a whole, and then answered or refused.
use Rattle.std.proofs.Common.{ℕ, List, Result, Ok, Err, inr}
use Rattle.served_clients.specs.lines.Names.{Names}
use Rattle.command_reports.specs.declared.refusals.Refusal.{Refusal}
use Rattle.batch_command.specs.LineLists.{IsWhole}
use Rattle.served_clients.specs.book.Ledgers.{Ledger}
use Rattle.served_clients.specs.declared.serve_reports.ends.Ends.{Ends}
use Rattle.served_clients.specs.RunGhosts.{RunGhosts}
use Rattle.batch_command.specs.GivenBatches.{Batch}
use Rattle.batch_command.specs.Lists.{LinesSay, ListSays}

-- what is said of a list, by what is said of its lines
pub list_by : {Src Snk Dsk L : Type 0} (ghosts : RunGhosts Src Snk Dsk L) (known : Names) (batch : Batch L) (lines : List (List ℕ)) (found : Ledger Dsk) (after : Dsk) (src src' : Src) (snk snk' : Snk) (result : Result Ends Refusal)
    → IsWhole ghosts.source src src' lines → LinesSay ghosts known batch lines found after snk snk' result → ListSays ghosts known batch found after src src' snk snk' result
list_by ghosts known batch lines found after src src' snk snk' (Ok ends) read says =
    record { lines = lines; read = read; outcome = says }
list_by ghosts known batch lines found after src src' snk snk' (Err refusal) read says = record {
  disk_is = says.disk_is;
  unwritten = says.unwritten;
  why = inr (record { lines = lines; read = read; flaw = says.flaw });
}
