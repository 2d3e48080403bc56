-- What the command comes to, by its status.
use Rattle.std.proofs.Common.{◌≡◌, ◌≢◌, ◌⊎◌, ◌∙◌, ℕ, List, is_some, false, Result, Ok, Err, inl, inr, sym, ap, subst}
use Rattle.outside_io.specs.Places.{Untouched}
use Rattle.outside_io.specs.declared.disks.Disk.{Ghosts as Disks}
use Rattle.outside_io.specs.declared.sinks.Sink.{Ghosts as Sinks}
use Rattle.outside_io.specs.declared.sources.Source.{Ghosts as Sources}
use Rattle.command_reports.specs.declared.exit_status.Status.{Status}
use Rattle.command_reports.specs.declared.exit_status.Status.TheVariants.{Done, No, Words, Report}
use Rattle.command_reports.specs.Scenes.{Scene}
use Rattle.command_reports.specs.Writing.{ReportSays}
use Rattle.command_reports.specs.declared.file_rounds.writing.OutFault.{OutFault}
use Rattle.command_reports.specs.Refusals.{IsTold, line_of, status_of}
use Rattle.command_reports.specs.Reports.{Reports}
use Rattle.command_reports.specs.declared.refusals.Refusal.{Refusal}
use Rattle.command_reports.specs.declared.refusals.Refusal.TheVariants.{Told}
use Rattle.command_reports.proofs.Ends.{IsLeft}
use Rattle.command_files.proofs.Refused.{memory_other}
use Rattle.command_files.specs.Timetables.{timetable_on}
use Rattle.carry_command.specs.Disks.{WriteStep}
use Rattle.carry_command.specs.Lent.{IsReturned}
use Rattle.carry_command.specs.Lines.{left_line}
use Rattle.carry_command.specs.Names.{Names}
use Rattle.carry_command.specs.Prepared.{IsFirstLeft, Prepares}
use Rattle.carry_command.specs.Runs.{EndsReport, EndsRun, HasPrepared, HasRead, IsCarried, IsNotCarried, ReportsLine, RunsCarry}
use Rattle.carry_command.specs.Works.{CarriesOver, LeftStep, ReadsNetwork, WritesAll}
use Rattle.carry_command.specs.declared.carried_history.reasons.LeftOut.{LeftOut}
use Rattle.carry_command.proofs.Reaching.{Arrives, IsFound, Reaches, reaches}
use Rattle.carry_command.proofs.Refused.{all_other, done_other, IsOther, no_other, words_other}

-- ---- the end

-- nothing changed but the report
pub ends_leave : {Src Snk Dsk : Type 0} (sink : Sinks Snk) (old new : Scene Src Snk Dsk) (outcome : Result (List ℕ) Refusal) (status : Status) → EndsRun sink old new outcome status → IsLeft old new
ends_leave sink old new (Ok told) status ends = let only = ends.only in record { standing = only.standing; sinks = only.sinks; disks = only.disks }
ends_leave sink old new (Err refusal) status ends = let only = ends.reports.only in record { standing = only.standing; sinks = only.sinks; disks = only.disks }

-- where all was written, the status is Done, or Report
report_status : (report : Result (Unit {0}) OutFault) (status : Status) → EndsReport report status → (status ≡ Done) ⊎ (status ≡ Report)
report_status (Ok done) status ends = inl ends
report_status (Err fault) status ends = inr ends

neither : (A : Type 0) (status other : Status) → (status ≡ Done) ⊎ (status ≡ Report) → Done ≢ other → Report ≢ other → status ≡ other → A
neither A status other (inl done) no_done no_report is = absurd (no_done (sym done ∙ is))
neither A status other (inr part) no_done no_report is = absurd (no_report (sym part ∙ is))

reported : {Src Snk Dsk : Type 0} (sink : Sinks Snk) (line : List ℕ) (old new : Scene Src Snk Dsk) (report : Result (Unit {0}) OutFault) (status : Status) → EndsReport report status → status ≡ Done → ReportSays sink line old new report → ReportSays sink line old new (Ok tt)
reported sink line old new (Ok done) status ends is says = says
reported sink line old new (Err fault) status ends is says = let e : Report ≡ Done = sym ends ∙ is in absurd cc

module _ {Src Snk Dsk : Type 0} (source : Sources Src) (sink : Sinks Snk) (disk : Disks Dsk) (names : Names) where
  -- ---- an entry that would be left out

  -- all was read, the disk of the old journal was put back at once, and the first entry that would be left out is told
  pub record IsRefusedFirst (old new : Scene Src Snk Dsk) (refusal : Refusal) : Type 0 where
    pub out : Scene Src Snk Dsk
    pub read : HasRead source disk names old out
    pub found : IsFound source sink disk names old read.fourth
    pub no_file : is_some names.left ≡ false
    pub first : LeftOut
    pub is_first : IsFirstLeft (timetable_on read.network read.base) read.history first
    pub returned : IsReturned names.from read.from_after out new
    pub told : refusal ≡ Told No (left_line read.history.entries first)

  told_first : (other : Status) (line : List ℕ) (refusal : Refusal) → IsOther other → status_of refusal ≡ other → IsTold No line refusal → refusal ≡ Told No line
  told_first other line refusal is same (inl told) = told
  told_first other line refusal is same (inr memory) = absurd (memory_other other refusal memory is.memory same)

  prepares_first : (old new : Scene Src Snk Dsk) (refusal : Refusal) (other : Status) (it : Arrives source sink disk names old new (Err refusal)) → IsOther other → status_of refusal ≡ other → it.done ≡ it.out
      → Prepares it.read.network it.read.base it.read.history (is_some names.left) (Err refusal) → IsRefusedFirst old new refusal
  prepares_first old new refusal other it is same still (inl left) = record {
    out = it.out;
    read = it.read;
    found = it.found;
    no_file = left.0;
    first = left.1.first;
    is_first = left.1.is_first;
    returned = subst (λ (s : Scene Src Snk Dsk). IsReturned names.from it.read.from_after s new) still it.returned;
    told = told_first other (left_line it.read.history.entries left.1.first) refusal is same left.1.told;
  }
  prepares_first old new refusal other it is same still (inr memory) = absurd (memory_other other refusal memory is.memory same)

  over_first : (old new : Scene Src Snk Dsk) (refusal : Refusal) (other : Status) (it : Arrives source sink disk names old new (Err refusal)) → IsOther other → status_of refusal ≡ other
      → CarriesOver sink disk names it.read.network it.read.base it.read.history it.out it.done (Err refusal) → IsRefusedFirst old new refusal
  over_first old new refusal other it is same (inl stopped) = prepares_first old new refusal other it is same stopped.0 stopped.1
  over_first old new refusal other it is same (inr goes) = absurd (all_other sink disk names goes.given goes.between it.done refusal other is goes.next same)

  reached_first : (old new : Scene Src Snk Dsk) (refusal : Refusal) (other : Status) → IsOther other → status_of refusal ≡ other → Reaches source sink disk names old new (Err refusal) → IsRefusedFirst old new refusal
  reached_first old new refusal other is same (inl stopped) = absurd (stopped.other other is same)
  reached_first old new refusal other is same (inr it) = over_first old new refusal other it is same it.next

  -- a refusal with a status that no file, no disk and no report has is that of the first entry that would be left out
  refused_first : (old new : Scene Src Snk Dsk) (refusal : Refusal) (other : Status) → IsOther other → status_of refusal ≡ other → ReadsNetwork source sink disk names old new (Err refusal) → IsRefusedFirst old new refusal
  refused_first old new refusal other is same works = reached_first old new refusal other is same (reaches source sink disk names old new (Err refusal) works)

  -- and so the status is No
  first_is_no : (old new : Scene Src Snk Dsk) (refusal : Refusal) (other : Status) → IsOther other → status_of refusal ≡ other → ReadsNetwork source sink disk names old new (Err refusal) → No ≡ other
  first_is_no old new refusal other is same works = sym (ap status_of (refused_first old new refusal other is same works).told) ∙ same

  -- ---- what was written

  -- all was written behind what was read, and the disk of the old journal was put back
  record IsWrittenOver (old new : Scene Src Snk Dsk) (told : List ℕ) : Type 0 where
    out : Scene Src Snk Dsk
    has : HasPrepared source disk names old out
    fifth : Scene Src Snk Dsk
    wrote_left : LeftStep sink names.left has.prepared.lines out fifth (Ok tt)
    sixth : Scene Src Snk Dsk
    wrote : WriteStep disk has.prepared.file names.journal fifth sixth (Ok tt)
    returned : IsReturned names.from has.read.from_after sixth new
    told_is : told ≡ has.prepared.told

  all_written : (old out done new : Scene Src Snk Dsk) (told : List ℕ) (has : HasPrepared source disk names old out) → IsReturned names.from has.read.from_after done new → WritesAll sink disk names has.prepared out done (Ok told) → IsWrittenOver old new told
  all_written old out done new told has returned (inl stopped) = absurd stopped
  all_written old out done new told has returned (inr goes) = record {
    out = out;
    has = has;
    fifth = goes.between;
    wrote_left = goes.first;
    sixth = done;
    wrote = goes.next.0;
    returned = returned;
    told_is = goes.next.1;
  }

  over_written : (old new : Scene Src Snk Dsk) (told : List ℕ) (it : Arrives source sink disk names old new (Ok told)) → CarriesOver sink disk names it.read.network it.read.base it.read.history it.out it.done (Ok told) → IsWrittenOver old new told
  over_written old new told it (inl stopped) = absurd stopped
  over_written old new told it (inr goes) =
      all_written old it.out it.done new told (record { read = it.read; prepared = goes.given; is_prepared = goes.first.1 }) it.returned
      (subst (λ (s : Scene Src Snk Dsk). WritesAll sink disk names goes.given s it.done (Ok told)) goes.first.0 goes.next)

  reached_written : (old new : Scene Src Snk Dsk) (told : List ℕ) → Reaches source sink disk names old new (Ok told) → IsWrittenOver old new told
  reached_written old new told (inl stopped) = absurd stopped
  reached_written old new told (inr it) = over_written old new told it it.next

  -- ---- the whole run

  carried : (old between new : Scene Src Snk Dsk) (told : List ℕ) (status : Status) → IsWrittenOver old between told → ReportsLine sink told between new status → status ≡ Done → IsCarried source sink disk names old new
  carried old between new told status it line is = record {
    out = it.out;
    has = it.has;
    fifth = it.fifth;
    wrote_left = it.wrote_left;
    sixth = it.sixth;
    wrote = it.wrote;
    seventh = between;
    returned = it.returned;
    told = subst (λ (l : List ℕ). ReportSays sink l between new (Ok tt)) it.told_is (reported sink told between new line.written status line.ends is line.says);
    only = line.only;
  }

  done_by : (old between new : Scene Src Snk Dsk) (outcome : Result (List ℕ) Refusal) (status : Status) → ReadsNetwork source sink disk names old between outcome → EndsRun sink between new outcome status → status ≡ Done → IsCarried source sink disk names old new
  done_by old between new (Ok told) status works ends is = carried old between new told status (reached_written old between told (reaches source sink disk names old between (Ok told) works)) ends is
  done_by old between new (Err refusal) status works ends is = let e : No ≡ Done = first_is_no old between refusal Done done_other (sym ends.status_is ∙ is) works in absurd cc

  pub run_done : (old new : Scene Src Snk Dsk) (status : Status) → RunsCarry source sink disk names old new status → status ≡ Done → IsCarried source sink disk names old new
  run_done old new status runs is = done_by old runs.between new runs.outcome status runs.works runs.ends is

  not_carried : (old between new : Scene Src Snk Dsk) (refusal : Refusal) → IsRefusedFirst old between refusal → Reports sink (line_of refusal) between new → IsNotCarried source sink disk names old new
  not_carried old between new refusal it reports = record {
    out = it.out;
    read = it.read;
    no_file = it.no_file;
    first = it.first;
    is_first = it.is_first;
    seventh = between;
    returned = it.returned;
    told = subst (λ (line : List ℕ). Reports sink line between new) (ap line_of it.told) reports;
  }

  no_by : (old between new : Scene Src Snk Dsk) (outcome : Result (List ℕ) Refusal) (status : Status) → ReadsNetwork source sink disk names old between outcome → EndsRun sink between new outcome status → status ≡ No → IsNotCarried source sink disk names old new
  no_by old between new (Ok told) status works ends is = neither (IsNotCarried source sink disk names old new) status No (report_status ends.written status ends.ends) (λ e. cc) (λ e. cc) is
  no_by old between new (Err refusal) status works ends is = not_carried old between new refusal (refused_first old between refusal No no_other (sym ends.status_is ∙ is) works) ends.reports

  pub run_no : (old new : Scene Src Snk Dsk) (status : Status) → RunsCarry source sink disk names old new status → status ≡ No → IsNotCarried source sink disk names old new
  run_no old new status runs is = no_by old runs.between new runs.outcome status runs.works runs.ends is

  words_by : (old between new : Scene Src Snk Dsk) (outcome : Result (List ℕ) Refusal) (status : Status) → ReadsNetwork source sink disk names old between outcome → EndsRun sink between new outcome status → status ≢ Words
  words_by old between new (Ok told) status works ends = λ is. neither ⊥ status Words (report_status ends.written status ends.ends) (λ e. cc) (λ e. cc) is
  words_by old between new (Err refusal) status works ends = λ is. let e : No ≡ Words = first_is_no old between refusal Words words_other (sym ends.status_is ∙ is) works in absurd cc

  pub run_words : (old new : Scene Src Snk Dsk) (status : Status) → RunsCarry source sink disk names old new status → status ≢ Words
  run_words old new status runs = words_by old runs.between new runs.outcome status runs.works runs.ends

  first_by : (old between new : Scene Src Snk Dsk) (outcome : Result (List ℕ) Refusal) (status : Status) → ReadsNetwork source sink disk names old between outcome → EndsRun sink between new outcome status → status ≡ No
      → (refusal : Refusal) × IsRefusedFirst old between refusal
  first_by old between new (Ok told) status works ends is = neither ((refusal : Refusal) × IsRefusedFirst old between refusal) status No (report_status ends.written status ends.ends) (λ e. cc) (λ e. cc) is
  first_by old between new (Err refusal) status works ends is = (refusal, refused_first old between refusal No no_other (sym ends.status_is ∙ is) works)

  -- a run that ends with No was refused so
  pub run_first : (old new : Scene Src Snk Dsk) (status : Status) (runs : RunsCarry source sink disk names old new status) → status ≡ No → (refusal : Refusal) × IsRefusedFirst old runs.between refusal
  run_first old new status runs is = first_by old runs.between new runs.outcome status runs.works runs.ends is

  -- ---- sinks

  over_clean : (old new : Scene Src Snk Dsk) (result : Result (List ℕ) Refusal) (it : Arrives source sink disk names old new result) → CarriesOver sink disk names it.read.network it.read.base it.read.history it.out it.done result
      → Untouched old.sinks new.sinks ⊎ ((out : Scene Src Snk Dsk) × HasPrepared source disk names old out)
  over_clean old new (Ok told) it (inl stopped) = absurd stopped
  over_clean old new (Err refusal) it (inl stopped) = inl (λ name. it.returned.sinks name ∙ (ap (λ (s : Scene Src Snk Dsk). s.sinks name) stopped.0 ∙ (it.read.lent.sinks name ∙ it.found.sinks name)))
  over_clean old new result it (inr goes) = inr (it.out, record { read = it.read; prepared = goes.given; is_prepared = goes.first.1 })

  reached_clean : (old new : Scene Src Snk Dsk) (result : Result (List ℕ) Refusal) → Reaches source sink disk names old new result → Untouched old.sinks new.sinks ⊎ ((out : Scene Src Snk Dsk) × HasPrepared source disk names old out)
  reached_clean old new (Ok told) (inl stopped) = absurd stopped
  reached_clean old new (Err refusal) (inl stopped) = inl stopped.sinks
  reached_clean old new result (inr it) = over_clean old new result it it.next

  pub run_clean : (old new : Scene Src Snk Dsk) (status : Status) → RunsCarry source sink disk names old new status → Untouched old.sinks new.sinks ⊎ ((out : Scene Src Snk Dsk) × HasPrepared source disk names old out)
  run_clean old new status runs = elim (reached_clean old runs.between runs.outcome (reaches source sink disk names old runs.between runs.outcome runs.works)) [
    | inl same ↦ inl (λ name. (ends_leave sink runs.between new runs.outcome status runs.ends).sinks name ∙ same name)
    | inr has ↦ inr has
  ]
