-- A turn that was opened over a book, what was done to the book, and what the turn then did.
use Rattle.std.proofs.Common.{◌≡◌, ◌≢◌, ℕ, ◌<◌, ◌≤◌, true, List, [], ◌∷◌, ◌++◌, Option, length, ap}
use Rattle.std.proofs.Common.{sym, ◌∙◌, subst, refl, arith}
use Rattle.std.proofs.lemmas.List.{append-nil}
use mathlib.Core.Logic.{inr}
use Rattle.book_gate.specs.declared.views.Statement.{Statement}
use Rattle.book_gate.specs.Steps.{served}
use Rattle.book_gate.specs.Views.{StartsWith}
use Rattle.path_commit.specs.history.declared.verdicts.Verdict.TheVariants.{Fresh}
use Rattle.path_commit.specs.history.Legal.{Joins}
use Rattle.path_commit.specs.history.Verdict.{verdict_on}
use Rattle.outside_io.specs.Faults.{Rose}
use Rattle.path_commit.specs.declared.stands.Footing.{Footing}
use Rattle.path_commit.specs.Answers.{bytes_with}
use Rattle.path_commit.specs.Footings.{footing_of}
use Rattle.path_commit.specs.Ledgers.{Ledger, settled_of}
use Rattle.rail_types.specs.declared.entries.Entry.{Entry}
use Rattle.rail_types.specs.Timetables.{Timetable}
use Rattle.ask_turns.specs.declared.client_turns.halts.Halt.{Halt}
use Rattle.ask_turns.specs.declared.client_turns.halts.Halt.TheVariants as halt
use Rattle.ask_turns.specs.declared.client_turns.told.Entered.{Entered}
use Rattle.ask_turns.specs.declared.client_turns.told.Entered.TheVariants as entered
use Rattle.ask_turns.specs.declared.client_turns.told.Tried.{Tried}
use Rattle.ask_turns.specs.declared.client_turns.told.Tried.TheVariants as tried
use Rattle.ask_turns.specs.Told.{EntersIn, Gained, IsRefusal, IsTakenBefore, IsTakenSince, MayEnter}
use Rattle.ask_turns.specs.Told.{StopsIn, TriesIn}
use Rattle.ask_turns.specs.Turns.{CannotBegin, CannotSettle, HasEntered, HasTried, IsAdded}
use Rattle.ask_turns.specs.Turns.{IsReached, IsStopped, Looks, Sight, TakesTurn}
use Rattle.ask_turns.proofs.Taken.{took_turn}

abbrev pub stands : {D : Type 0} → (D → ℕ) → Ledger D → Statement Entry
stands faults book =
    record { list = book.entries; settled = settled_of book; count = faults book.disk }

abbrev pub timetable_in : Footing → Timetable
timetable_in footing =
    record { net = footing.net; settings = footing.base.settings; base = footing.base.claims }

pub same_timetable : {D : Type 0} (a b : Ledger D) → footing_of a ≡ footing_of b
    → a.timetable ≡ b.timetable
same_timetable a b same = ap timetable_in same

module _ {D : Type 0} (faults : D → ℕ) (v m : Sight) (book left : Ledger D)
    (opens : m ≡ record v { has_ticket = true; ticket = m.ticket; has_book = true; found = m.found })
    (goes_on : StartsWith m.found.list v.seen) (within : m.found.settled ≤ length m.found.list)
    (list : book.entries ≡ m.found.list) (counts : faults book.disk ≡ m.found.count)
    (later : faults book.disk ≤ faults left.disk) where
  nothing : left.entries ≡ book.entries → StartsWith left.entries m.found.list
  nothing same = ([], same ∙ list ∙ sym (append-nil m.found.list))

  takes : (settled : ℕ) → settled_of left ≡ settled → StartsWith left.entries m.found.list
      → TakesTurn v (served m (stands faults left)) settled
  takes settled is keeps =
      subst (TakesTurn v (served m (stands faults left))) is
      (took_turn v m (served m (stands faults left)) (stands faults left) opens refl goes_on keeps
      within (omega arith))

  rises : Rose (faults book.disk) (faults left.disk) → Rose m.found.count (faults left.disk)
  rises rose = subst (λ n. Rose n (faults left.disk)) counts rose

  looks_at : left ≡ book → settled_of book ≡ length book.entries
      → Looks v (served m (stands faults left))
  looks_at same settled = record {
    takes = takes (length left.entries) (ap settled_of same ∙ settled ∙ ap (λ (b : Ledger D). length b.entries) (sym same))
        (nothing (ap (λ (b : Ledger D). b.entries) same));
    same = ap (λ (b : Ledger D). b.entries) same ∙ list;
  }

  pub looks : (w : Sight) → w ≡ served m (stands faults left) → left ≡ book
      → settled_of book ≡ length book.entries → Looks v w
  looks w ends same settled = subst (Looks v) (sym ends) (looks_at same settled)

  module _ (timetable : Timetable) (by : book.timetable ≡ timetable) (entry : Entry)
      (settled : settled_of book ≡ length book.entries) where
    moved : (P : Timetable → List Entry → Type 0) → P book.timetable book.entries
        → P timetable m.found.list
    moved P told = subst (P timetable) list (subst (λ t. P t book.entries) by told)

    behind : (at front count : ℕ) → Gained entry book left at front count
        → left.entries ≡ m.found.list ++ entry ∷ []
    behind at front count gained = gained.entries ∙ ap (λ l. l ++ entry ∷ []) list

    adds : (at front count : ℕ) → Gained entry book left at front count
        → IsAdded timetable entry at front (served m (stands faults left))
    adds at front count gained = record {
      may = moved (λ t entries. MayEnter t entry entries) gained.may;
      left = behind at front count gained;
      here = gained.here ∙ ap length list;
      behind = gained.behind;
    }

    gains : (at front count settled : ℕ) → Gained entry book left at front count → count ≡ settled
        → TakesTurn v (served m (stands faults left)) settled
    gains at front count settled gained is =
        takes settled (gained.settled ∙ is) (entry ∷ [], behind at front count gained)

    ended : (told : Entered) → EntersIn faults entry book left told
        → HasEntered timetable entry told v (served m (stands faults left))
    ended (entered.Settled at front) done =
        (gains at front (length left.entries) (length left.entries) done.0 refl, adds at front (length left.entries) done.0)
    ended (entered.Unsettled at front) done = (
      gains at front (length book.entries) (length m.found.list) done.0 (ap length list),
      adds at front (length book.entries) done.0,
      rises done.1,
    )
    ended (entered.Refused told) done = record {
      looks = looks_at done.0 settled;
      refusal = moved (λ t entries. IsRefusal entries (verdict_on t entries entry) told) done.2;
      stale = moved (λ t entries. verdict_on t entries entry ≢ Fresh) done.1;
    }
    ended entered.Full done = record {
      looks = looks_at done.0 settled;
      joins = moved (λ t entries. Joins t entries entry) done.1;
      no_room = moved (λ t entries. t.settings.journal_bytes < bytes_with entries entry) done.2;
    }

    pub enters : (w : Sight) → w ≡ served m (stands faults left) → (told : Entered)
        → EntersIn faults entry book left told → HasEntered timetable entry told v w
    enters w ends told done = subst (HasEntered timetable entry told v) (sym ends) (ended told done)

    ended_try : (searched : ℕ) (told : Tried) → TriesIn faults entry searched book left told
        → HasTried timetable entry searched told v (served m (stands faults left))
    ended_try searched (tried.Entered (entered.Settled at front)) done =
        ended (entered.Settled at front) done
    ended_try searched (tried.Entered (entered.Unsettled at front)) done =
        ended (entered.Unsettled at front) done
    ended_try searched (tried.Entered (entered.Refused told)) done = (
      ended (entered.Refused told) done.0,
      moved (λ t entries. IsTakenBefore t entries entry searched) done.1,
    )
    ended_try searched (tried.Entered entered.Full) done = ended entered.Full done
    ended_try searched (tried.Missed at) done = record {
      looks = looks_at done.0 settled;
      since = moved (λ t entries. IsTakenSince t entries entry searched at) done.1;
    }

    pub tries : (w : Sight) → w ≡ served m (stands faults left) → (searched : ℕ) (told : Tried)
        → TriesIn faults entry searched book left told → HasTried timetable entry searched told v w
    tries w ends searched told done =
        subst (HasTried timetable entry searched told v) (sym ends) (ended_try searched told done)

    cannot_begin : StopsIn faults entry book left halt.DiskFault
        → CannotBegin timetable entry v (served m (stands faults left))
    cannot_begin done = record {
      takes = takes (length left.entries) done.2 (nothing done.1);
      same = done.1 ∙ list;
      may = moved (λ t entries. MayEnter t entry entries) done.0;
      rose = rises done.3;
    }

    stopped : (after : Option ℕ) → IsReached after m.found.list → (told : Halt)
        → StopsIn faults entry book left told
        → IsStopped timetable entry told after v (served m (stands faults left))
    stopped after reached halt.DiskFault done = inr (cannot_begin done, reached)
    stopped after reached halt.NoMemory done = looks_at done settled
    stopped after reached (halt.Ahead named front) done = absurd done

    pub stops : (w : Sight) → w ≡ served m (stands faults left) → (after : Option ℕ)
        → IsReached after m.found.list → (told : Halt) → StopsIn faults entry book left told
        → IsStopped timetable entry told after v w
    stops w ends after reached told done =
        subst (IsStopped timetable entry told after v) (sym ends) (stopped after reached told done)

pub fails_to_settle : {D : Type 0} (faults : D → ℕ) (v m w : Sight) (left : Ledger D)
    → m ≡ record v { has_ticket = true; ticket = m.ticket; has_book = true; found = m.found }
    → w ≡ served m (stands faults left) → StartsWith m.found.list v.seen
    → left.entries ≡ m.found.list → settled_of left ≡ m.found.settled
    → m.found.settled < length m.found.list → m.found.count ≤ faults left.disk
    → Rose m.found.count (faults left.disk) → CannotSettle v w
fails_to_settle faults v m w left opens ends goes_on list settled pending later rose =
    subst (CannotSettle v) (sym ends) record {
      takes = subst (TakesTurn v (served m (stands faults left))) settled
          (took_turn v m (served m (stands faults left)) (stands faults left) opens refl goes_on
          ([], list ∙ sym (append-nil m.found.list)) (omega arith) later);
      same = list;
      pending = pending;
      rose = rose;
    }
