-- What is reported of ends, and the statuses that they have.
use Rattle.std.proofs.Common.{◌≡◌, ◌≢◌, ◌∙◌, ◌⊎◌, ℕ, Bool, true, false, List, Result, Ok, Err, inl, inr, refl, sym, subst, ap}
use Rattle.command_reports.specs.declared.exit_status.Status.{Status}
use Rattle.command_reports.specs.declared.exit_status.Status.TheVariants.{Done, Words, ClientEnd, Report, Memory}
use Rattle.command_reports.specs.Scenes.{Scene}
use Rattle.command_reports.specs.Writing.{ReportSays}
use Rattle.command_reports.specs.declared.file_rounds.writing.OutFault.{OutFault}
use Rattle.outside_io.specs.declared.sinks.Sink.{Ghosts as Sinks}
use Rattle.served_clients.specs.Ends.{ComeTo, end_status, EndsSay, line_of, status_behind, status_unreported, status_untold}
use Rattle.served_clients.specs.declared.serve_reports.ends.Ends.{Ends}

-- a status of clients that were served
abbrev pub AtEnd : Status → Type 0
AtEnd status = (status ≡ Done) ⊎ ((status ≡ ClientEnd) ⊎ ((status ≡ Report) ⊎ (status ≡ Memory)))

all_done : AtEnd Done
all_done = inl refl

faulty_end : AtEnd ClientEnd
faulty_end = inr (inl refl)

no_report : AtEnd Report
no_report = inr (inr (inl refl))

no_memory : AtEnd Memory
no_memory = inr (inr (inr refl))

untold_at : (faulty wanting : Bool) → AtEnd (status_untold (end_status faulty wanting))
untold_at true wanting = faulty_end
untold_at false true = no_memory
untold_at false false = no_memory

told_at : (faulty wanting : Bool) → AtEnd (end_status faulty wanting)
told_at true wanting = faulty_end
told_at false true = no_memory
told_at false false = all_done

ends_at : (faulty wanting : Bool) (text : List ℕ) (ends : Ends) → ComeTo (end_status faulty wanting) text ends → AtEnd ends.status
ends_at faulty wanting text ends (inl is) = subst AtEnd (sym (ap (λ (e : Ends). e.status) is)) (told_at faulty wanting)
ends_at faulty wanting text ends (inr is) = subst AtEnd (sym (ap (λ (e : Ends). e.status) is)) (untold_at faulty wanting)

failed_at : (status : Status) → AtEnd status → AtEnd (status_unreported status)
failed_at status (inl is) = subst (λ (s : Status). AtEnd (status_unreported s)) (sym is) no_report
failed_at status (inr (inl is)) = subst (λ (s : Status). AtEnd (status_unreported s)) (sym is) faulty_end
failed_at status (inr (inr (inl is))) = subst (λ (s : Status). AtEnd (status_unreported s)) (sym is) no_report
failed_at status (inr (inr (inr is))) = subst (λ (s : Status). AtEnd (status_unreported s)) (sym is) no_report

behind_at : (status : Status) (result : Result (Unit {0}) OutFault) → AtEnd status → AtEnd (status_behind status result)
behind_at status (Ok _) at = at
behind_at status (Err fault) at = failed_at status at

pub not_words : (status : Status) → AtEnd status → status ≢ Words
not_words status (inl at) is = let e : Done ≡ Words = sym at ∙ is in cc
not_words status (inr (inl at)) is = let e : ClientEnd ≡ Words = sym at ∙ is in cc
not_words status (inr (inr (inl at))) is = let e : Report ≡ Words = sym at ∙ is in cc
not_words status (inr (inr (inr at))) is = let e : Memory ≡ Words = sym at ∙ is in cc

pub other_end : (status : Status) → AtEnd status → status ≢ Done → status ≢ ClientEnd → status ≢ Report → status ≢ Memory → ⊥
other_end status (inl at) d c r m = d at
other_end status (inr (inl at)) d c r m = c at
other_end status (inr (inr (inl at))) d c r m = r at
other_end status (inr (inr (inr at))) d c r m = m at

-- ---- all done

done_of : (faulty wanting : Bool) → end_status faulty wanting ≡ Done → (faulty ≡ false) × (wanting ≡ false)
done_of true wanting is = cc
done_of false true is = cc
done_of false false is = (refl, refl)

untold_not : (faulty wanting : Bool) → status_untold (end_status faulty wanting) ≢ Done
untold_not true wanting is = cc
untold_not false true is = cc
untold_not false false is = cc

failed_not : (status : Status) → AtEnd status → status_unreported status ≢ Done
failed_not status (inl is) same = let e : status_unreported Done ≡ Done = subst (λ (s : Status). status_unreported s ≡ Done) is same in cc
failed_not status (inr (inl is)) same = let e : status_unreported ClientEnd ≡ Done = subst (λ (s : Status). status_unreported s ≡ Done) is same in cc
failed_not status (inr (inr (inl is))) same = let e : status_unreported Report ≡ Done = subst (λ (s : Status). status_unreported s ≡ Done) is same in cc
failed_not status (inr (inr (inr is))) same = let e : status_unreported Memory ≡ Done = subst (λ (s : Status). status_unreported s ≡ Done) is same in cc

behind_done : (status : Status) (result : Result (Unit {0}) OutFault) → AtEnd status → status_behind status result ≡ Done → (result ≡ Ok tt) × (status ≡ Done)
behind_done status (Ok _) at is = (refl, is)
behind_done status (Err fault) at is = absurd (failed_not status at is)

module _ {Src Snk Dsk : Type 0} (sink : Sinks Snk) (faulty wanting : Bool) (text : List ℕ) (ends : Ends) (old new : Scene Src Snk Dsk) (status : Status) where
  -- the status behind a report
  pub said_at : ComeTo (end_status faulty wanting) text ends → EndsSay sink ends old new status → AtEnd status
  said_at come say = subst AtEnd (sym say.status_is) (behind_at ends.status say.result (ends_at faulty wanting text ends come))

  -- at Done no end was faulty, and memory was not wanted
  pub record AllTold : Type 0 where
    pub none : (faulty ≡ false) × (wanting ≡ false)
    pub told : ReportSays sink text old new (Ok tt)

  pub said_done : ComeTo (end_status faulty wanting) text ends → EndsSay sink ends old new status → status ≡ Done → AllTold
  said_done (inr are) say is =
      let both = behind_done ends.status say.result (ends_at faulty wanting text ends (inr are)) (sym say.status_is ∙ is) in
      absurd (untold_not faulty wanting (sym (ap (λ (e : Ends). e.status) are) ∙ both.1))
  said_done (inl are) say is =
      let both = behind_done ends.status say.result (ends_at faulty wanting text ends (inl are)) (sym say.status_is ∙ is) in
      record {
        none = done_of faulty wanting (sym (ap (λ (e : Ends). e.status) are) ∙ both.1);
        told = subst (λ (t : List ℕ). ReportSays sink t old new (Ok tt)) (ap line_of are) (subst (λ (r : Result (Unit {0}) OutFault). ReportSays sink (line_of ends) old new r) both.0 say.says);
      }
