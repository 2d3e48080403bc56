-- The session of the demo: from what its client was told to what is counted.
use Rattle.std.proofs.Common.{◌≡◌, ◌∙◌, ℕ, ◌+◌, zero, suc, List, [], ◌∷◌, ◌++◌, Some, All, false}
use Rattle.std.proofs.Common.{ap, arith, length, length-append, refl, subst, sym, codes}
use Rattle.std.specs.Prelude.{decimal}
use Rattle.std.specs.Io.KnownBytes.{IsAtEnd}
use Rattle.std.proofs.lemmas.List.Elements.{All-append, All-cons, All-nil}
use Rattle.std.proofs.lemmas.List.{append-nil, length-map}
use Rattle.admission_rules.specs.declared.quotas.Quota.{Quota}
use Rattle.admission_rules.specs.declared.rules.Rule.{Ghosts as Rules}
use Rattle.client_lines.specs.Names.{Names}
use Rattle.admission_rules.specs.Ruled.{stand}
use Rattle.served_clients.specs.sessions.Ends.{EndsAtInput, EndsBy, streams, Streams}
use Rattle.served_clients.specs.sessions.Lines.{ended, HasNoEnd, lines_of}
use Rattle.served_clients.specs.sessions.Told.{lines_told, text_told}
use Rattle.served_clients.specs.sessions.declared.sessions.Why.{Why}
use Rattle.served_clients.specs.sessions.declared.sessions.Why.TheVariants.{Input}
use Rattle.served_clients.proofs.sessions_lemmas.SessionSteps.{lines_of-ended}
use Rattle.outside_io.specs.Memory.{InputInMemory, OutputInMemory}
use Rattle.outside_io.specs.StoredDisks.{DiskInMemory}
use Rattle.served_clients.specs.book.Ledgers.{Ledger}
use Rattle.served_clients.specs.ClientRuns.{AreMatched, IsRun, told_own}
use Rattle.served_clients.specs.Talks.{Talk}
use Rattle.served_clients.specs.sessions.Proofs.{is_wanted}
use Rattle.request_server.specs.Runs.{IsServed, WereServed}
use Rattle.demo_command.specs.declared.summaries.Counts.{Counts}
use Rattle.demo_command.specs.Counts.{AreHeld, count_lines, DemoPlan, DemoSession, IsCount}
use Rattle.demo_command.specs.Counts.{IsCounted, IsOnePlan}
use Rattle.demo_command.specs.Lines.{ask_text, demo_lines, departure, first_lines}
use Rattle.demo_command.specs.Railways.{demo_timetable}
use Rattle.demo_command.specs.Sessions.{client_name, count_told, demo_names, is_granted, is_no_path}
use Rattle.demo_command.proofs.Counted.{counts_agree}
use Rattle.demo_command.proofs.Beginnings.{granted_begins, no_path_begins}
use Rattle.demo_command.proofs.Decided.{all_decided}
use Rattle.demo_command.proofs.Fronts.{entries_are_grants}
use Rattle.demo_command.proofs.Plain.{decimal_plain, IsOther, Plain, word}

-- ---- the lines

joined : (front back : List ℕ) → Plain front → Plain back → Plain (front ++ back)
joined front back is are = All-append IsOther front back is are

ask_plain : (line tick : ℕ) → Plain (ask_text line tick)
ask_plain line tick =
    let named = joined (codes "ask ") (decimal line) (word (codes "ask ") refl) (decimal_plain line) in
    let between = joined (codes "ask " ++ decimal line) (codes " F1 W E ") named (word (codes " F1 W E ") refl) in
    let from = joined (codes "ask " ++ decimal line ++ codes " F1 W E ") (decimal tick) between (decimal_plain tick) in
    let spaced = joined (codes "ask " ++ decimal line ++ codes " F1 W E " ++ decimal tick) (codes " ") from (word (codes " ") refl) in
    let to = joined (codes "ask " ++ decimal line ++ codes " F1 W E " ++ decimal tick ++ codes " ") (decimal tick) spaced (decimal_plain tick) in
    joined (codes "ask " ++ decimal line ++ codes " F1 W E " ++ decimal tick ++ codes " " ++ decimal tick) (codes " 0 17280 0") to (word (codes " 0 17280 0") refl)

lines_plain : (number count : ℕ) → All HasNoEnd (first_lines number count)
unfolding first_lines
lines_plain number zero = All-nil HasNoEnd
lines_plain number (suc count) =
    let line = ask_text (suc count) (departure number (suc count)) in
    All-append HasNoEnd (first_lines number count) (line ∷ []) (lines_plain number count) (All-cons HasNoEnd line [] (ask_plain (suc count) (departure number (suc count))) (All-nil HasNoEnd))

-- there are a thousand lines
lines_long : (number count : ℕ) → length (first_lines number count) ≡ count
unfolding first_lines
lines_long number zero = refl
lines_long number (suc count) = omega (arith, length-append (first_lines number count) (ask_text (suc count) (departure number (suc count)) ∷ []), lines_long number count)

lines_again : (lines : List (List ℕ)) → All HasNoEnd lines → lines_of (ended lines) ≡ lines
lines_again lines are = ap lines_of (sym (append-nil (ended lines))) ∙ lines_of-ended lines [] are ∙ append-nil lines

-- ---- the one session

-- what is known of sources and sinks in memory
abbrev in_memory : Streams InputInMemory OutputInMemory
in_memory = streams (λ (source : InputInMemory). Some source.left) (λ (source : InputInMemory). source.faults) (λ (sink : OutputInMemory). Some sink.held) (λ (sink : OutputInMemory). sink.faults)

-- how the one client was served, over a book that was found and left so
abbrev Serves : Rules Quota → Ledger DiskInMemory → Ledger DiskInMemory → DemoPlan → DemoSession → Talk → Type 0
Serves kind found left = IsServed kind in_memory found.entries left.entries

abbrev Runs : Ledger DiskInMemory → Ledger DiskInMemory → Names → List Talk → Type 0
Runs found left known talks = IsRun (λ (disk : DiskInMemory). disk.faults) known found left talks

-- the talk of the one client
record IsOneTalk (P : Talk → Type 0) (talks : List Talk) : Type 0 where
  talk : Talk
  one : talks ≡ talk ∷ []
  served : P talk

one_talk : (R : DemoPlan → DemoSession → Talk → Type 0) (plan : DemoPlan) (session : DemoSession) (talks : List Talk) → AreMatched R (plan ∷ []) (session ∷ []) talks → IsOneTalk (R plan session) talks
one_talk R plan session [] matched = absurd matched
one_talk R plan session (talk ∷ []) matched = record { talk = talk; one = refl; served = matched.0 }
one_talk R plan session (talk ∷ next ∷ talks) matched = absurd matched.1

-- a client without rules at a book without entries has no rules
without_rules : (kind : Rules Quota) (found left : Ledger DiskInMemory) (plan : DemoPlan) (session : DemoSession) (talk : Talk) → found.entries ≡ [] → plan.rules.items ≡ [] → Serves kind found left plan session talk → talk.rules ≡ []
without_rules kind found left plan session talk empty none served =
    served.begun ∙ ap (λ entries. told_own entries plan.name (stand kind plan.rules.items)) empty ∙ ap (λ rules. stand kind rules) none

-- the input was read to its end
at_input : (kind : Rules Quota) (found left : Ledger DiskInMemory) (plan : DemoPlan) (session : DemoSession) (talk : Talk) → session.ended.why ≡ Input → Serves kind found left plan session talk
    → EndsAtInput talk.traffic session.ended.lines (IsAtEnd (Some session.source.left))
at_input kind found left plan session talk why served = subst (λ (w : Why). EndsBy w talk.traffic session.ended.lines (IsAtEnd (Some session.source.left))) why served.passes.ends

held_by : (number : ℕ) (kind : Rules Quota) (found left : Ledger DiskInMemory) (plan : DemoPlan) (session : DemoSession) (front : ℕ) (counts : Counts) (talk : Talk)
    → found.timetable ≡ demo_timetable → found.entries ≡ [] → plan.name ≡ client_name → plan.source.left ≡ ended (demo_lines number) → plan.sink.held ≡ [] → is_wanted plan.proofs ≡ false → plan.rules.items ≡ []
    → session.ended.why ≡ Input → IsCount session.sink.held front counts → front ≡ length left.entries
    → Serves kind found left plan session talk → Runs found left demo_names (talk ∷ []) → AreHeld number counts
held_by number kind found left plan session front counts talk timetable empty name lines silent unwanted none why count at_front served run =
    let ends = at_input kind found left plan session talk why served in
    let taken : talk.traffic.taken ≡ plan.source.left = sym (append-nil talk.traffic.taken) ∙ ap (λ rest. talk.traffic.taken ++ rest) (sym ends.at_end) ∙ sym served.passes.consumed in
    let told : lines_told talk.traffic.told ≡ demo_lines number = ends.lines_are.text ∙ ap lines_of (taken ∙ lines) ∙ lines_again (demo_lines number) (lines_plain number 1000) in
    let replies : session.sink.held ≡ text_told talk.traffic.told = served.passes.appended ∙ ap (λ held. held ++ talk.traffic.gained) silent ∙ ends.counted.replies in
    let granted : counts.granted ≡ count_told is_granted talk.traffic.told = count.granted ∙ ap (λ text. count_lines (codes "granted ") text) replies ∙ counts_agree (codes "granted ") is_granted granted_begins refl talk.traffic.told in
    let refused : counts.refused ≡ count_told is_no_path talk.traffic.told = count.refused ∙ ap (λ text. count_lines (codes "no-path ") text) replies ∙ counts_agree (codes "no-path ") is_no_path no_path_begins refl talk.traffic.told in
    let long : length talk.traffic.told ≡ 1000 = sym (length-map talk.traffic.told (λ one. one.line)) ∙ ap length told ∙ lines_long number 1000 in
    let all = count.all in
    let whole : count_told is_granted talk.traffic.told + count_told is_no_path talk.traffic.told ≡ length talk.traffic.told = omega arith in
    let decided = all_decided talk.traffic.told whole in
    record {
      told = talk.traffic.told;
      left = left;
      session = record {
        found = found;
        timetable = timetable;
        empty = empty;
        talk = talk;
        name = served.talk_name ∙ name;
        proves = served.proves ∙ unwanted;
        rules = without_rules kind found left plan session talk empty none served;
        told_is = refl;
        lines = told;
        run = run;
      };
      decided = decided;
      entries = entries_are_grants found left talk empty run decided;
      granted = granted;
      refused = refused;
      front_is = count.front_is ∙ at_front;
    }

pub are_held : (number : ℕ) (kind : Rules Quota) (known : Names) (found left : Ledger DiskInMemory) (plans : List DemoPlan) (sessions : List DemoSession) (front : ℕ) (counts : Counts)
    → known ≡ demo_names → found.timetable ≡ demo_timetable → found.entries ≡ [] → IsOnePlan number plans → WereServed kind (λ (disk : DiskInMemory). disk.faults) in_memory known found left plans sessions
    → IsCounted sessions front counts → front ≡ length left.entries → AreHeld number counts
are_held number kind known found left plans sessions front counts known_is timetable empty planned served counted at_front =
    let R = Serves kind found left in
    let matched : AreMatched R (planned.plan ∷ []) (counted.session ∷ []) served.talks =
    subst (λ (ps : List DemoPlan). AreMatched R ps (counted.session ∷ []) served.talks) planned.one
    (subst (λ (ss : List DemoSession). AreMatched R plans ss served.talks) counted.one served.served) in
    let talked = one_talk R planned.plan counted.session served.talks matched in
    let run : Runs found left demo_names (talked.talk ∷ []) =
    subst (λ (k : Names). Runs found left k (talked.talk ∷ [])) known_is
    (subst (λ (ts : List Talk). Runs found left known ts) talked.one served.run) in
    held_by number kind found left planned.plan counted.session front counts talked.talk timetable empty planned.is.name planned.is.lines planned.is.empty planned.is.unwanted planned.is.rules counted.why counted.count at_front talked.served run
