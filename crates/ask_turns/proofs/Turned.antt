-- A turn that is open, what was done to its book, and what the turn did once it ended.
use Rattle.std.proofs.Common.{◌≡◌, ℕ, ◌≤◌, List, [], Option, length, ap, sym, ◌∙◌, subst, arith, length-append}
use Rattle.std.proofs.lemmas.List.{append-nil}
use Rattle.book_gate.specs.declared.gates.Gate.{Gate}
use Rattle.book_gate.specs.declared.gates.Pass.{Pass}
use Rattle.book_gate.specs.Passes.{opened, view}
use Rattle.book_gate.specs.Steps.{served}
use Rattle.book_gate.specs.Views.{StartsWith}
use Rattle.path_commit.specs.declared.stands.Footing.{Footing}
use Rattle.path_commit.specs.Footings.{footing_of}
use Rattle.path_commit.specs.Ledgers.{Ledger, settled_of}
use Rattle.path_commit.specs.history.Legal.{IsInRange}
use Rattle.rail_types.specs.declared.entries.Entry.{Entry}
use Rattle.rail_types.specs.Timetables.{Timetable}
use Rattle.ask_turns.specs.declared.client_turns.clients.Client.{Client}
use Rattle.ask_turns.specs.declared.client_turns.halts.Halt.{Halt}
use Rattle.ask_turns.specs.declared.client_turns.told.Entered.{Entered}
use Rattle.ask_turns.specs.Clients.{IsCopyOf, Knows}
use Rattle.ask_turns.specs.declared.client_turns.told.Tried.{Tried}
use Rattle.ask_turns.specs.Told.{EntersIn, StopsIn, TriesIn}
use Rattle.ask_turns.specs.Turns.{HasEntered, HasTried, IsOpen, IsReached, IsStopped, Looks, Sight, timetable_at}
use Rattle.ask_turns.proofs.Ended.{enters, looks, same_timetable, stands, stops, tries}
use Rattle.ask_turns.proofs.Known.{known_longer, starts_trans}

module _ {D : Type 0} (faults : D → ℕ) (gate : Gate (Ledger D) Entry Footing)
    (old new : Pass (Ledger D) Entry Footing) (after : Option ℕ)
    (held book left : Ledger D) (open_now : IsOpen faults gate old new after held)
    (lent : book ≡ held) where
  pub starts : StartsWith left.entries book.entries → StartsWith left.entries (view new).found.list
  starts more =
      subst (StartsWith left.entries) (ap (λ (b : Ledger D). b.entries) lent ∙ open_now.list) more

  pub same_starts : left ≡ book → StartsWith left.entries (view new).found.list
  same_starts same =
      ([], ap (λ (b : Ledger D). b.entries) (same ∙ lent) ∙ open_now.list ∙ sym (append-nil (view new).found.list))

  pub count_still : left ≡ book → (view new).found.count ≤ faults left.disk
  count_still same =
      let is = ap (λ (b : Ledger D). faults b.disk) (same ∙ lent) in
      let count = open_now.counts in omega arith

  pub footing_still : left ≡ book → footing_of left ≡ footing_of (opened gate)
  footing_still same = ap footing_of (same ∙ lent) ∙ open_now.footing

  -- the book has nothing pending when the turn begins
  pub settled_all : settled_of book ≡ length book.entries
  settled_all = subst (λ (b : Ledger D). settled_of b ≡ length b.entries) (sym lent) open_now.settled

  pub in_range : (entry : Entry) → IsInRange (timetable_at gate) entry
      → IsInRange book.timetable entry
  in_range entry within =
      subst (λ (t : Timetable). IsInRange t entry)
      (sym (same_timetable book (opened gate) (ap footing_of lent ∙ open_now.footing))) within

  pub counts_on : faults book.disk ≤ faults left.disk → (view new).found.count ≤ faults left.disk
  counts_on later =
      let is = ap (λ (b : Ledger D). faults b.disk) lent in
      let count = open_now.counts in omega arith

  -- what a client knew before is no more than what the book has
  pub front_within : (known : Client) → Knows (timetable_at gate) known (view old).seen
      → known.front ≤ length book.entries
  front_within known knows =
      let all = known_longer (timetable_at gate) known (view new).found.list (view old).seen
      open_now.goes_on knows in
      let rest : List Entry = all.1.0 in
      let long = ap length all.1.1 ∙ length-append all.0 rest in
      let here = ap (λ (b : Ledger D). length b.entries) lent ∙ ap length open_now.list in
      let front = all.2.front in omega arith

  module _ (w : Sight) (ends : w ≡ served (view new) (stands faults left)) where
    found_still : (view new).found.list ≡ w.found.list
    found_still = ap (λ (x : Sight). x.found.list) (sym ends)

    -- what was told of the book is told of what the turn found
    pub list_found : book.entries ≡ w.found.list
    list_found = ap (λ (b : Ledger D). b.entries) lent ∙ open_now.list ∙ found_still

    pub copied : (client : Client) → IsCopyOf (timetable_at gate) client (view new).found.list
        → IsCopyOf (timetable_at gate) client w.found.list
    copied client copy = subst (IsCopyOf (timetable_at gate) client) found_still copy

    pub reaches : IsReached after w.found.list
    reaches = subst (IsReached after) found_still open_now.reached

    goes_on_to : StartsWith left.entries (view new).found.list → StartsWith w.seen (view new).found.list
    goes_on_to more = subst (λ l. StartsWith l (view new).found.list) (sym (ap (λ (x : Sight). x.seen) ends)) more

    -- what the pass had seen is the beginning of what it has seen now
    pub grows : StartsWith left.entries book.entries → StartsWith w.seen (view old).seen
    grows more =
        starts_trans w.seen (view new).found.list (view old).seen (goes_on_to (starts more)) open_now.goes_on

    pub knows_all : (client : Client) → StartsWith left.entries (view new).found.list
        → Knows (timetable_at gate) client (view new).found.list → Knows (timetable_at gate) client w.seen
    knows_all client more knows =
        known_longer (timetable_at gate) client w.seen (view new).found.list (goes_on_to more) knows

    pub turn_looks : left ≡ book → Looks (view old) w
    turn_looks same =
        let is : left ≡ held = same ∙ lent in
        let count = ap (λ (b : Ledger D). faults b.disk) is in
        looks faults (view old) (view new) held left open_now.opens open_now.goes_on open_now.within
        open_now.list open_now.counts (omega arith) w ends is open_now.settled

    by : held.timetable ≡ timetable_at gate
    by = same_timetable held (opened gate) open_now.footing

    pub turn_enters : (entry : Entry) (told : Entered) → faults book.disk ≤ faults left.disk
        → EntersIn faults entry book left told
        → HasEntered (timetable_at gate) entry told (view old) w
    turn_enters entry told later done =
        enters faults (view old) (view new) held left open_now.opens open_now.goes_on open_now.within
        open_now.list open_now.counts
        (subst (λ (b : Ledger D). faults b.disk ≤ faults left.disk) lent later)
        (timetable_at gate) by entry open_now.settled w ends told
        (subst (λ (b : Ledger D). EntersIn faults entry b left told) lent done)

    pub turn_tries : (entry : Entry) (searched : ℕ) (told : Tried)
        → faults book.disk ≤ faults left.disk → TriesIn faults entry searched book left told
        → HasTried (timetable_at gate) entry searched told (view old) w
    turn_tries entry searched told later done =
        tries faults (view old) (view new) held left open_now.opens open_now.goes_on open_now.within
        open_now.list open_now.counts
        (subst (λ (b : Ledger D). faults b.disk ≤ faults left.disk) lent later)
        (timetable_at gate) by entry open_now.settled w ends searched told
        (subst (λ (b : Ledger D). TriesIn faults entry searched b left told) lent done)

    pub turn_stops : (entry : Entry) (told : Halt) → faults book.disk ≤ faults left.disk
        → StopsIn faults entry book left told
        → IsStopped (timetable_at gate) entry told after (view old) w
    turn_stops entry told later done =
        stops faults (view old) (view new) held left open_now.opens open_now.goes_on open_now.within
        open_now.list open_now.counts
        (subst (λ (b : Ledger D). faults b.disk ≤ faults left.disk) lent later)
        (timetable_at gate) by entry open_now.settled w ends after open_now.reached told
        (subst (λ (b : Ledger D). StopsIn faults entry b left told) lent done)
