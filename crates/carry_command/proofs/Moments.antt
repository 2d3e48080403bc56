-- What happens to both disks, from moment to moment.
use Rattle.std.proofs.Common.{◌≡◌, ◌≢◌, ◌∙◌, ℕ, List, Option, None, Some, Result, Ok, Err, inl, inr, sym, ap, subst}
use Rattle.outside_io.specs.Places.{Place, Replaces, Untouched}
use Rattle.outside_io.specs.declared.failures.Failed.{Failed}
use Rattle.outside_io.specs.declared.disks.Disk.{Ghosts as Disks}
use Rattle.outside_io.specs.declared.sinks.Sink.{Ghosts as Sinks}
use Rattle.outside_io.specs.declared.sources.Source.{Ghosts as Sources}
use Rattle.outside_io.proofs.Places.{Replaces-round}
use Rattle.command_reports.specs.Scenes.{Scene}
use Rattle.command_reports.specs.declared.refusals.Refusal.{Refusal}
use Rattle.path_recover.specs.Beginning.{IsAsItWas, WasEmpty}
use Rattle.path_recover.specs.Failing.{IsOnlyRead}
use Rattle.print_commands.specs.Steps.{WasOnlyRead}
use Rattle.carry_command.specs.Disks.{IsEmpty, IsNotWritten, IsWritten, LeavesWhole}
use Rattle.carry_command.specs.Names.{Names}
use Rattle.carry_command.specs.Runs.{HasPrepared, WasCarriedTo}
use Rattle.carry_command.specs.Works.{CarriesOver, LeftStep, ReadsNetwork, WritesAll, WritesJournal}
use Rattle.carry_command.proofs.Ending.{IsRefusedFirst}
use Rattle.carry_command.proofs.Places.{looks_leave, replaces_then}
use Rattle.print_commands.proofs.Printed.{replaces_more}
use Rattle.carry_command.proofs.Reaching.{Arrives, Reaches, reaches}
use Rattle.carry_command.proofs.Stepping.{misses_disk, over_keeps}

-- the lines that are written leave all disks alone
left_disks : {Src Snk Dsk : Type 0} (sink : Sinks Snk) (left : Option (List ℕ)) (lines : List ℕ) (old new : Scene Src Snk Dsk) (result : Result (Unit {0}) Refusal) → LeftStep sink left lines old new result → Untouched old.disks new.disks
left_disks {Src = Src} {Snk = Snk} {Dsk = Dsk} sink None lines old new result step = λ name. ap (λ (s : Scene Src Snk Dsk). s.disks name) step.0
left_disks sink (Some file) lines old new result step = step.only.disks

module _ {Src Snk Dsk : Type 0} (source : Sources Src) (sink : Sinks Snk) (disk : Disks Dsk) (names : Names) (differs : names.from ≢ names.journal) where
  -- ---- the disk of the new journal

  -- it was found empty, and still is while the disk of the old one is out
  out_empty : (old new : Scene Src Snk Dsk) (result : Result (List ℕ) Refusal) (it : Arrives source sink disk names old new result) → Replaces (IsEmpty disk) (old.disks names.journal) (it.out.disks names.journal)
  out_empty old new result it = subst (λ (place : Place Dsk). Replaces (IsEmpty disk) (old.disks names.journal) place) (sym (it.read.lent.object.others names.journal (λ same. differs (sym same)))) it.found.journal

  back_still : (old new : Scene Src Snk Dsk) (result : Result (List ℕ) Refusal) (it : Arrives source sink disk names old new result) → new.disks names.journal ≡ it.done.disks names.journal
  back_still old new result it = it.returned.object.others names.journal (λ same. differs (sym same))

  -- nothing was written to it
  alone : (old new : Scene Src Snk Dsk) (result : Result (List ℕ) Refusal) (it : Arrives source sink disk names old new result) → it.done.disks names.journal ≡ it.out.disks names.journal
      → WasCarriedTo source disk names old (old.disks names.journal) (new.disks names.journal)
  alone old new result it still = inr (inl (replaces_more (IsEmpty disk) (IsAsItWas disk) (λ before after is. is.same) (old.disks names.journal) (new.disks names.journal)
      (subst (λ (place : Place Dsk). Replaces (IsEmpty disk) (old.disks names.journal) place) (sym (back_still old new result it ∙ still)) (out_empty old new result it))))

  -- the journal was written to it, or a part of it
  written : (old new : Scene Src Snk Dsk) (result : Result (List ℕ) Refusal) (it : Arrives source sink disk names old new result) (has : HasPrepared source disk names old it.out) (fifth : Scene Src Snk Dsk)
      → fifth.disks names.journal ≡ it.out.disks names.journal → Replaces (LeavesWhole disk has.prepared.file) (fifth.disks names.journal) (it.done.disks names.journal)
      → WasCarriedTo source disk names old (old.disks names.journal) (new.disks names.journal)
  written old new result it has fifth still leaves =
      let empty : Replaces (IsEmpty disk) (old.disks names.journal) (fifth.disks names.journal) = subst (λ (place : Place Dsk). Replaces (IsEmpty disk) (old.disks names.journal) place) (sym still) (out_empty old new result it) in
      let both = replaces_then (IsEmpty disk) (LeavesWhole disk has.prepared.file) (λ before after. WasEmpty disk before × LeavesWhole disk has.prepared.file before after)
      (λ a b c first second. (first.empty, looks_leave disk has.prepared.file a b c first.same second)) (old.disks names.journal) (fifth.disks names.journal) (it.done.disks names.journal) empty leaves in
      inr (inr (record {
        out = it.out;
        has = has;
        left = subst (λ (place : Place Dsk). Replaces (λ before after. WasEmpty disk before × LeavesWhole disk has.prepared.file before after) (old.disks names.journal) place) (sym (back_still old new result it)) both;
      }))

  journal_carried : (old new : Scene Src Snk Dsk) (result : Result (List ℕ) Refusal) (it : Arrives source sink disk names old new result) (has : HasPrepared source disk names old it.out) (fifth : Scene Src Snk Dsk) (wrote : Result (List ℕ) Refusal)
      → fifth.disks names.journal ≡ it.out.disks names.journal → WritesJournal disk names has.prepared fifth it.done wrote → WasCarriedTo source disk names old (old.disks names.journal) (new.disks names.journal)
  journal_carried old new result it has fifth (Ok told) still works =
      written old new result it has fifth still (replaces_more (IsWritten disk has.prepared.file) (LeavesWhole disk has.prepared.file) (λ before after is. is.moments) (fifth.disks names.journal) (it.done.disks names.journal) works.0.says.done)
  journal_carried old new result it has fifth (Err refusal) still works = elim works.says [
    | inl unopened ↦ alone old new result it (unopened.same names.journal ∙ still)
    | inr refused ↦
        written old new result it has fifth still
        (replaces_more (IsNotWritten disk has.prepared.file refused.fault) (LeavesWhole disk has.prepared.file) (λ before after is. is.moments) (fifth.disks names.journal) (it.done.disks names.journal) refused.left)
  ]

  all_carried : (old new : Scene Src Snk Dsk) (result : Result (List ℕ) Refusal) (it : Arrives source sink disk names old new result) (has : HasPrepared source disk names old it.out) (wrote : Result (List ℕ) Refusal)
      → WritesAll sink disk names has.prepared it.out it.done wrote → WasCarriedTo source disk names old (old.disks names.journal) (new.disks names.journal)
  all_carried old new result it has (Ok told) (inl stopped) = absurd stopped
  all_carried old new result it has (Err refusal) (inl stopped) = alone old new result it (left_disks sink names.left has.prepared.lines it.out it.done (Err refusal) stopped names.journal)
  all_carried old new result it has wrote (inr goes) =
      journal_carried old new result it has goes.between wrote (left_disks sink names.left has.prepared.lines it.out goes.between (Ok goes.given) goes.first names.journal) goes.next

  over_carried : (old new : Scene Src Snk Dsk) (result : Result (List ℕ) Refusal) (it : Arrives source sink disk names old new result) → CarriesOver sink disk names it.read.network it.read.base it.read.history it.out it.done result
      → WasCarriedTo source disk names old (old.disks names.journal) (new.disks names.journal)
  over_carried old new (Ok told) it (inl stopped) = absurd stopped
  over_carried old new (Err refusal) it (inl stopped) = alone old new (Err refusal) it (ap (λ (s : Scene Src Snk Dsk). s.disks names.journal) stopped.0)
  over_carried old new result it (inr goes) =
      all_carried old new result it (record { read = it.read; prepared = goes.given; is_prepared = goes.first.1 }) result
      (subst (λ (s : Scene Src Snk Dsk). WritesAll sink disk names goes.given s it.done result) goes.first.0 goes.next)

  reached_carried : (old new : Scene Src Snk Dsk) (result : Result (List ℕ) Refusal) → Reaches source sink disk names old new result → WasCarriedTo source disk names old (old.disks names.journal) (new.disks names.journal)
  reached_carried old new (Ok told) (inl stopped) = absurd stopped
  reached_carried old new (Err refusal) (inl stopped) = elim (stopped.journal differs) [
    | inl same ↦ inl same
    | inr looked ↦ inr (inl looked)
  ]
  reached_carried old new result (inr it) = over_carried old new result it it.next

  pub carry_carried : (old new : Scene Src Snk Dsk) (result : Result (List ℕ) Refusal) → ReadsNetwork source sink disk names old new result → WasCarriedTo source disk names old (old.disks names.journal) (new.disks names.journal)
  carry_carried old new result works = reached_carried old new result (reaches source sink disk names old new result works)

  -- where an entry would be left out, it was looked at alone
  pub carry_unwritten : (old new : Scene Src Snk Dsk) (refusal : Refusal) → IsRefusedFirst source sink disk names old new refusal → Replaces (IsEmpty disk) (old.disks names.journal) (new.disks names.journal)
  carry_unwritten old new refusal it =
      let back : new.disks names.journal ≡ it.read.fourth.disks names.journal = it.returned.object.others names.journal (λ same. differs (sym same)) ∙ it.read.lent.object.others names.journal (λ same. differs (sym same)) in
      subst (λ (place : Place Dsk). Replaces (IsEmpty disk) (old.disks names.journal) place) (sym back) it.found.journal

  -- ---- the disk of the old journal

  reached_read : (old new : Scene Src Snk Dsk) (result : Result (List ℕ) Refusal) → Reaches source sink disk names old new result → WasOnlyRead disk (old.disks names.from) (new.disks names.from)
  reached_read old new (Ok told) (inl stopped) = absurd stopped
  reached_read old new (Err refusal) (inl stopped) = stopped.from differs
  reached_read old new result (inr it) =
      let read = it.read in
      let still = (over_keeps sink disk names read.network read.base read.history it.out it.done result it.next).keeps.disks names.from (misses_disk names.from names.journal names.left differs) in
      inr (subst (λ (place : Place Dsk). Replaces (IsOnlyRead disk) place (new.disks names.from)) (it.found.others names.from differs)
      (Replaces-round {E = Failed} (IsOnlyRead disk) names.from read.from_before read.from_after read.fourth.disks it.out.disks it.done.disks new.disks read.lent.object still it.returned.object read.read_old.read.read))

  pub carry_read : (old new : Scene Src Snk Dsk) (result : Result (List ℕ) Refusal) → ReadsNetwork source sink disk names old new result → WasOnlyRead disk (old.disks names.from) (new.disks names.from)
  carry_read old new result works = reached_read old new result (reaches source sink disk names old new result works)
