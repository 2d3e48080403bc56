-- A journal's disk, opened and put back.
use Rattle.std.proofs.Common.{◌≡◌, ◌∙◌, ℕ, List, ◌∷◌, Result, Ok, Err, codes, inl, inr, sym, ap}
use Rattle.outside_io.specs.declared.failures.Failed.{Failed}
use Rattle.outside_io.specs.Openings.{disk_at}
use Rattle.outside_io.specs.Places.{place_once_opened, place_once_returned, Untouched}
use Rattle.outside_io.specs.declared.disks.Disk.{Ghosts as Disks}
use Rattle.outside_io.specs.declared.sources.Source.{Ghosts as Sources}
use Rattle.outside_io.proofs.Names.{name_cases}
use Rattle.outside_io.proofs.Places.{place_once_returned-opened}
use Rattle.command_reports.specs.declared.exit_status.Status.TheVariants.{Opening as not_opened}
use Rattle.command_reports.specs.Scenes.{Scene}
use Rattle.served_clients.specs.lines.Names.{Names}
use Rattle.served_clients.specs.StreamClients.{pair_calls}
use Rattle.served_clients.proofs.StreamStops.{opens_moved_all}
use Rattle.served_clients.proofs.Uses.{exchanged_at}
use Rattle.command_line.specs.declared.client_words.clients.ClientWord.{ClientWord}
use Rattle.command_reports.specs.Refusals.{IsTold, line_with}
use Rattle.command_reports.specs.Works.{KeepsTo, Misses}
use Rattle.command_reports.specs.declared.refusals.Refusal.{Refusal}
use Rattle.served_clients.specs.book.Ledgers.{Ledger}
use Rattle.served_clients.specs.declared.serve_reports.ends.Ends.{Ends}
use Rattle.served_clients.specs.Files.{known_by}
use Rattle.served_clients.specs.RunGhosts.{RunGhosts}
use Rattle.served_clients.specs.ServedJournals.{IsFound}
use Rattle.served_clients.specs.Rounds.{DiskHalts, DiskRefuses}
use Rattle.served_clients.specs.declared.served_journals.files.Files.{Files}
use Rattle.served_clients.proofs.Remains.{remains_by}
use Rattle.served_clients.proofs.Halts.{halted_round, halted_sinks, halted_sources}
use Rattle.served_clients.proofs.JournalRounds.{disk_open, DiskIsRefused, exchanged, IsRound}
use Rattle.served_clients.proofs.JournalRounds.{other_stands, refused_round, round_only, same_sinks}
use Rattle.served_clients.proofs.JournalRounds.{same_sources, unopened_only, unopened_unready}
use Rattle.batch_command.specs.Books.{Answers, BookSays, Declines, HadPair}
use Rattle.batch_command.specs.GivenBatches.{Batch}
use Rattle.batch_command.specs.Journals.{BatchSays, BatchStep, DiskDeclines, DiskSays, Refuses}
use Rattle.batch_command.specs.Journals.{Stops}

-- what is said of the disk of a book over which a list was answered, or not
pub disk_by : {Src Snk Dsk L : Type 0} (ghosts : RunGhosts Src Snk Dsk L) (files : Files) (name : List ℕ) (batch : Batch L) (before after : Dsk) (found : Ledger Dsk) (old new : Scene Src Snk Dsk) (result : Result Ends Refusal)
    → IsFound ghosts.disk files before found → BookSays ghosts (known_by files) batch found after old new result → DiskSays ghosts files name batch before after old new result
disk_by ghosts files name batch before after found old new (Ok ends) opened says = record { found = found; opened = opened; answers = says }
disk_by ghosts files name batch before after found old new (Err refusal) opened (inl unserved) = inr (inl (record { found = found; opened = opened; unserved = unserved }))
disk_by ghosts files name batch before after found old new (Err refusal) opened (inr declines) = inr (inr (record { found = found; opened = opened; declines = declines }))

pub unopened_step : {Src Snk Dsk L : Type 0} (ghosts : RunGhosts Src Snk Dsk L) (files : Files) (name : List ℕ) (batch : Batch L) (failed : Failed) (old new : Scene Src Snk Dsk) (refusal : Refusal) → DiskIsRefused name failed old new
    → IsTold not_opened (line_with (codes "open: ") name) refusal → BatchStep ghosts files name batch old new (Err refusal)
unopened_step ghosts files name batch failed old new refusal refused told = record {
  says = inr (record {
    why = inl (record { unready = unopened_unready name failed old new refused; opened = refused.opened; same = refused.object.refused; rose = refused.rose; told = told });
    sources = refused.sources;
    sinks = refused.sinks;
  });
  only = unopened_only name (pair_calls batch.client) failed old new refusal refused;
}

-- the disk of a journal is no stream of a client
pub disk_missed : (name : List ℕ) (client : ClientWord) → Misses (disk_at name) (pair_calls client)
disk_missed name client = ((λ same. cc), ((λ same. cc), tt))

module _ {Src Snk Dsk L : Type 0} (name : List ℕ) (batch : Batch L) (before after : Dsk) (s0 s1 s2 s3 : Scene Src Snk Dsk) (round : IsRound name before after s0 s1 s2 s3) where
  abbrev client : ClientWord
  client = batch.client

  had_around : (src src' : Src) (snk snk' : Snk) → HadPair client s1 s2 src src' snk snk' → HadPair client s0 s3 src src' snk snk'
  had_around src src' snk snk' had = record {
    opens = opens_moved_all (disk_at name) s1.standing s0.standing (λ call differs. other_stands name before after s0 s1 s2 s3 round call (λ e. differs (sym e))) (pair_calls client) (disk_missed name client) had.opens;
    quiet = round.quiet_still ∙ (had.quiet ∙ round.quiet);
    source = exchanged_at src src' (s1.sources client.input) (s2.sources client.input) (s0.sources client.input) (s3.sources client.input) (round.sources client.input) (sym (round.sources_still client.input)) had.source;
    sink = exchanged_at snk snk' (s1.sinks client.output) (s2.sinks client.output) (s0.sinks client.output) (s3.sinks client.output) (round.sinks client.output) (sym (round.sinks_still client.output)) had.sink;
  }

  answers_around : (ghosts : RunGhosts Src Snk Dsk L) (known : Names) (found : Ledger Dsk) (ends : Ends) → Answers ghosts known batch found after s1 s2 ends
      → Answers ghosts known batch found after s0 s3 ends
  answers_around ghosts known found ends answers = record {
    src = answers.src;
    src' = answers.src';
    snk = answers.snk;
    snk' = answers.snk';
    had = had_around answers.src answers.src' answers.snk answers.snk' answers.had;
    answered = answers.answered;
  }

  declines_around : (source : Sources Src) (known : Names) (found : Ledger Dsk) (refusal : Refusal) → Declines source known batch found after s1 s2 refusal → Declines source known batch found after s0 s3 refusal
  declines_around source known found refusal declines = record {
    src = declines.src;
    src' = declines.src';
    snk = declines.snk;
    snk' = declines.snk';
    had = had_around declines.src declines.src' declines.snk declines.snk' declines.had;
    refused = declines.refused;
  }

  refused_step : (disk : Disks Dsk) (files : Files) (refusal : Refusal) → DiskRefuses disk files name before after s1 s2 refusal → Stops disk files name client s0 s3 refusal
  refused_step disk files refusal refuses = record {
    why = inr (inl (refused_round name before after s0 s1 s2 s3 round disk files refusal refuses));
    sources = same_sources name before after s0 s1 s2 s3 round refuses.same;
    sinks = same_sinks name before after s0 s1 s2 s3 round refuses.same;
  }

  halted_step : (disk : Disks Dsk) (files : Files) (refusal : Refusal) → DiskHalts disk files (pair_calls client) before after s1 s2 refusal → Stops disk files name client s0 s3 refusal
  halted_step disk files refusal halts = record {
    why = inr (inr (halted_round name (pair_calls client) before after s0 s1 s2 s3 round disk files refusal (disk_missed name client) halts));
    sources = halted_sources name (pair_calls client) before after s0 s1 s2 s3 round disk files refusal (disk_missed name client) halts;
    sinks = halted_sinks name (pair_calls client) before after s0 s1 s2 s3 round disk files refusal (disk_missed name client) halts;
  }

  declined_step : {A : Type 0} (source : Sources Src) (disk : Disks Dsk) (files : Files) (refusal : Refusal) → DiskDeclines source disk files batch before after s1 s2 refusal → KeepsTo {A = A} (pair_calls client) s1 s2 (Err refusal)
      → Refuses source disk files name batch s0 s3 refusal
  declined_step source disk files refusal says only = record {
    before = before;
    after = after;
    found = says.found;
    name_open = disk_open name before after s0 s1 s2 s3 round;
    exchanged = exchanged name before after s0 s1 s2 s3 round (pair_calls client) (disk_missed name client) only.keeps;
    opened = says.opened;
    declines = declines_around source (known_by files) says.found refusal says.declines;
  }

  -- the step that answers, by what was said of the disk while it was out
  pub step_by : (ghosts : RunGhosts Src Snk Dsk L) (files : Files) (result : Result Ends Refusal) → DiskSays ghosts files name batch before after s1 s2 result → KeepsTo (pair_calls client) s1 s2 result
      → BatchStep ghosts files name batch s0 s3 result
  unfolding answers_around
  step_by ghosts files (Ok ends) says only = record {
    says = record {
      before = before;
      after = after;
      found = says.found;
      name_open = disk_open name before after s0 s1 s2 s3 round;
      exchanged = exchanged name before after s0 s1 s2 s3 round (pair_calls client) (disk_missed name client) only.keeps;
      opened = says.opened;
      answers = answers_around ghosts (known_by files) says.found ends says.answers;
      remains = remains_by ghosts.disk files before after says.found says.answers.answered.outcome.left says.opened says.answers.answered.outcome.footing says.answers.answered.outcome.closed;
    };
    only = round_only name before after s0 s1 s2 s3 round (pair_calls client) (Ok ends) only;
  }
  step_by ghosts files (Err refusal) (inl refuses) only = record { says = inr (refused_step ghosts.disk files refusal refuses); only = round_only name before after s0 s1 s2 s3 round (pair_calls client) (Err refusal) only }
  step_by ghosts files (Err refusal) (inr (inl halts)) only = record { says = inr (halted_step ghosts.disk files refusal halts); only = round_only name before after s0 s1 s2 s3 round (pair_calls client) (Err refusal) only }
  step_by ghosts files (Err refusal) (inr (inr declines)) only = record { says = inl (declined_step ghosts.source ghosts.disk files refusal declines only); only = round_only name before after s0 s1 s2 s3 round (pair_calls client) (Err refusal) only }

-- ---- refusals change no sink

-- a sink that was opened and put back as it was stands as it stood
had_unwritten : {Src Snk Dsk : Type 0} (client : ClientWord) (s0 s1 : Scene Src Snk Dsk) (src src' : Src) (snk snk' : Snk) → HadPair client s0 s1 src src' snk snk' → snk' ≡ snk → s1.sinks client.output ≡ s0.sinks client.output
had_unwritten {Snk = Snk} client s0 s1 src src' snk snk' had same =
    let place = s0.sinks client.output in
    had.sink.after_is ∙ (ap (λ (it : Snk). place_once_returned it (place_once_opened place)) same ∙ place_once_returned-opened place snk had.sink.before_is)

step_clean : {Src Snk Dsk L : Type 0} (ghosts : RunGhosts Src Snk Dsk L) (files : Files) (name : List ℕ) (batch : Batch L) (s0 s1 : Scene Src Snk Dsk) (refusal : Refusal)
    → BatchSays ghosts files name batch s0 s1 (Err refusal) → KeepsTo {A = Ends} (disk_at name ∷ pair_calls batch.client) s0 s1 (Err refusal) → Untouched s0.sinks s1.sinks
step_clean ghosts files name batch s0 s1 refusal (inr stops) only other = stops.sinks other
step_clean ghosts files name batch s0 s1 refusal (inl refuses) only other = elim (name_cases other batch.client.output) [
  | inl same ↦ rw same (had_unwritten batch.client s0 s1 refuses.declines.src refuses.declines.src' refuses.declines.snk refuses.declines.snk' refuses.declines.had refuses.declines.refused.unwritten)
  | inr differs ↦ only.keeps.sinks other ((λ e. cc), ((λ e. cc), ((λ e. differs cc), tt)))
]

-- a step that refuses changes no sink
pub refusal_clean : {Src Snk Dsk L : Type 0} (ghosts : RunGhosts Src Snk Dsk L) (files : Files) (name : List ℕ) (batch : Batch L) (s0 s1 : Scene Src Snk Dsk) (refusal : Refusal)
    → BatchStep ghosts files name batch s0 s1 (Err refusal) → Untouched s0.sinks s1.sinks
refusal_clean ghosts files name batch s0 s1 refusal step = step_clean ghosts files name batch s0 s1 refusal step.says step.only
