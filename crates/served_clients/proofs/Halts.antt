-- Nobody was served.
use Rattle.std.proofs.Common.{◌≡◌, ◌∙◌, ℕ, List, ◌∷◌, Err, inr, refl, sym}
use Rattle.outside_io.specs.Openings.{disk_at, Opening}
use Rattle.outside_io.specs.Places.{Untouched}
use Rattle.outside_io.specs.declared.disks.Disk.{Ghosts as Disks}
use Rattle.command_reports.specs.Scenes.{Scene}
use Rattle.command_reports.specs.Works.{Keeps, KeepsTo, Misses}
use Rattle.command_reports.proofs.Steps.{silent}
use Rattle.command_reports.specs.declared.refusals.Refusal.{Refusal}
use Rattle.command_reports.specs.declared.refusals.Refusal.TheVariants.{Memory}
use Rattle.served_clients.specs.Lending.{IsAsBefore}
use Rattle.served_clients.specs.Refusing.{AreMade, IsStopped}
use Rattle.served_clients.proofs.StreamLoans.{as_before}
use Rattle.served_clients.proofs.StreamStops.{stopped_moved}
use Rattle.line_answers.specs.book.Ledgers.{Ledger}
use Rattle.served_clients.specs.ServedJournals.{IsFoundOnly}
use Rattle.served_clients.specs.Rounds.{DiskHalts, IsHalted, IsUnserved}
use Rattle.served_clients.specs.declared.served_journals.files.Files.{Files}
use Rattle.served_clients.proofs.JournalRounds.{disk_open, IsRound, opened_all, other_stands}
use Rattle.served_clients.proofs.JournalRounds.{replaced}

-- a scene that is as it was keeps to any calls
pub same_keeps : {Src Snk Dsk : Type 0} (calls : List Opening) (s0 s1 : Scene Src Snk Dsk) → IsAsBefore s0 s1 → Keeps calls s0 s1
same_keeps calls s0 s1 same = record { standing = same.standing; sources = λ name misses. same.sources name; sinks = λ name misses. same.sinks name; disks = λ name misses. same.disks name; report = same.report }

-- what is said where nobody was served
pub record Unserved (A : Type 0) {Src Snk Dsk : Type 0} (calls : List Opening) (found : Ledger Dsk) (after : Dsk) (s0 s1 : Scene Src Snk Dsk) (refusal : Refusal) : Type 0 where
  pub says : IsUnserved calls found after s0 s1 refusal
  pub keeps : KeepsTo {A = A} calls s0 s1 (Err refusal)

-- memory was wanted at once
pub unserved_at_once : (A : Type 0) {Src Snk Dsk : Type 0} (calls : List Opening) (found : Ledger Dsk) (after : Dsk) (s : Scene Src Snk Dsk) → after ≡ found.disk → Unserved A calls found after s s Memory
unserved_at_once A calls found after s disk = record {
  says = record { disk_is = disk; as_before = as_before s; why = inr refl };
  keeps = record { keeps = same_keeps calls s s (as_before s); opens = (0, silent s.opened) };
}

-- a name could not be opened, or memory was wanted
pub unserved_stopped : (A : Type 0) {Src Snk Dsk : Type 0} (calls : List Opening) (found : Ledger Dsk) (after : Dsk) (s0 s1 : Scene Src Snk Dsk) (refusal : Refusal) → after ≡ found.disk → IsStopped calls s0 s1 refusal → Unserved A calls found after s0 s1 refusal
unserved_stopped A calls found after s0 s1 refusal disk stopped = record {
  says = record { disk_is = disk; as_before = stopped.as_before; why = stopped.why };
  keeps = record { keeps = same_keeps calls s0 s1 stopped.as_before; opens = (stopped.count, stopped.opened) };
}

-- the journal was opened, but nobody was served
module _ {Src Snk Dsk : Type 0} (name : List ℕ) (calls : List Opening) (before after : Dsk) (s0 s1 s2 s3 : Scene Src Snk Dsk) (round : IsRound name before after s0 s1 s2 s3) (disk : Disks Dsk) (files : Files) (refusal : Refusal)
    (misses : Misses (disk_at name) calls) (halts : DiskHalts disk files calls before after s1 s2 refusal) where
  pub halted_round : IsHalted disk files name calls s0 s3 refusal
  halted_round =
      let only : IsFoundOnly disk files before after = record { found = halts.found; opened = halts.opened; disk_is = halts.unserved.disk_is } in
      record {
        name_open = disk_open name before after s0 s1 s2 s3 round;
        left = replaced name before after s0 s1 s2 s3 round (IsFoundOnly disk files) (halts.unserved.as_before.disks name) only;
        why = stopped_moved (disk_at name) s1.standing s0.standing (λ call differs. other_stands name before after s0 s1 s2 s3 round call (λ e. differs (sym e)))
            (AreMade s1 s2) (λ made. AreMade s0 s3 (disk_at name ∷ made)) (opened_all name before after s0 s1 s2 s3 round) calls misses s1.faults s0.faults s2.faults s3.faults refusal
            (sym round.quiet) round.quiet_still halts.unserved.why;
      }

  pub halted_sources : Untouched s0.sources s3.sources
  halted_sources other = round.sources_still other ∙ (halts.unserved.as_before.sources other ∙ round.sources other)

  pub halted_sinks : Untouched s0.sinks s3.sinks
  halted_sinks other = round.sinks_still other ∙ (halts.unserved.as_before.sinks other ∙ round.sinks other)
