-- From the passes of all clients, joined into one, to what the clients were told.
use Rattle.std.proofs.Common.{◌≡◌, ◌≢◌, ◌⊎◌, ℕ, zero, suc, ◌+◌, ◌-◌, ◌^◌, ◌<◌, true, List, [], ◌∷◌}
use Rattle.std.proofs.Common.{All, AllPairs, Any, Contains, IsPermutation, Option, Some, None}
use Rattle.std.proofs.Common.{flat_map, drop, length, slice_get, get_or, ap, sym, ◌∙◌, subst, refl}
use Rattle.std.proofs.Common.{arith, length-drop}
use mathlib.Core.Logic.{inl, inr, ⊎_elim}
use Rattle.std.proofs.lemmas.Bool.{cases_lt}
use Rattle.std.proofs.lemmas.List.{get_or-drop, get_or_default}
use Rattle.std.proofs.lemmas.List.Elements.{All-weaker}
use Rattle.std.proofs.lemmas.List.Sorted.{All-permutation}
use Rattle.std.proofs.lemmas.Slice.Eq.{bytes_eq-Decides}
use Rattle.line_answers.specs.gate.declared.views.Mark.{Mark}
use Rattle.line_answers.specs.gate.Passes.{opened}
use Rattle.line_answers.specs.gate.Views.{StartsWith, IsChain, positions, own, rises}
use Rattle.line_answers.proofs.gate_lemmas.Turns.{IsWithin, chain_all}
use Rattle.line_answers.specs.turns.Turns.{Sight, timetable_at}
use Rattle.line_answers.specs.history.Legal.{IsLegal}
use Rattle.line_answers.specs.turns.declared.shared.Shared.{Shared}
use Rattle.line_answers.specs.book.declared.stands.Footing.{Footing}
use Rattle.line_answers.specs.book.Ledgers.{Ledger, settled_of}
use Rattle.rail_types.specs.declared.entries.Entry.{Entry}
use Rattle.rail_types.specs.Timetables.{Timetable}
use Rattle.served_clients.specs.Joins.{AreJoined, IsTalkOf}
use Rattle.served_clients.specs.ClientRuns.{IsRun, is_owned, owned}
use Rattle.served_clients.specs.Seats.{callers_at, found_at}
use Rattle.served_clients.specs.Talks.{Callers, IsWithinSettled, printed, Talk, unsettled}
use Rattle.served_clients.proofs.Counts.{Ordered-positions, All-positions}
use Rattle.served_clients.proofs.Rows.{AreNamed, All-flat_map, printed_owned, printed_ordered}
use Rattle.served_clients.proofs.Shares.{shares_are}
use Rattle.served_clients.proofs.Told.{settled_by_end, told_at_end}

-- one position has one owner
one_owner_of : (n m : List ℕ) (o : Option Entry) → is_owned n o ≡ true → is_owned m o ≡ true → n ≡ m
one_owner_of n m None p q = cc
one_owner_of n m (Some e) p q = sym ((bytes_eq-Decides e.owner n).0 p) ∙ (bytes_eq-Decides e.owner m).0 q

one_owner : (history : List Entry) (n m : List ℕ) (p : ℕ) → is_owned n (slice_get history p) ≡ true → is_owned m (slice_get history p) ≡ true → n ≡ m
one_owner history n m p = one_owner_of n m (slice_get history p)

-- the entry at a position that is someone's has that owner
owner_there : (history : List Entry) (name : List ℕ) (p : ℕ) (e : Entry) → is_owned name (slice_get history p) ≡ true → slice_get history p ≡ Some e → e.owner ≡ name
owner_there history name p e its at = (bytes_eq-Decides e.owner name).0 (sym (ap (is_owned name) at) ∙ its)

slice_get_is : (xs : List Entry) (i : ℕ) (d : Entry) → i < length xs → slice_get xs i ≡ Some (get_or xs i d)
slice_get_is [] i d below = absurd (omega arith)
slice_get_is (x ∷ xs) zero d below = refl
slice_get_is (x ∷ xs) (suc i) d below = slice_get_is xs i d (omega arith)

slice_get-drop : (history : List Entry) (n k : ℕ) (d : Entry) → k < length (drop n history) → slice_get history (n + k) ≡ Some (get_or (drop n history) k d)
slice_get-drop history n k d below = let long = length-drop n history in
    slice_get_is history (n + k) d (omega arith) ∙ ap Some (sym (get_or-drop n history k d))

module _ {D : Type 0} (shared : Shared D) (history : List Entry) (v : Sight) (talks : List Talk)
    (joined : AreJoined shared v talks) (ends : All (λ list. StartsWith history list) v.joined)
    (entries : own v.turns ≡ positions (length (found_at shared.gate)) (length history - length (found_at shared.gate))) where
  abbrev found : List Entry
  found = found_at shared.gate

  abbrev callers : List ℕ → Callers
  callers = callers_at shared

  named : (name : List ℕ) → AreNamed name (callers name)
  named name number rules = refl

  abbrev least : ℕ
  least = length found

  replies : All (IsTalkOf shared history) talks
  replies = joined.replies history ends

  all_shares : IsPermutation (flat_map (λ (t : Talk). printed t.traffic.told) talks) (positions (length found) (length history - length found))
  all_shares = subst (λ l. IsPermutation (flat_map (λ (t : Talk). printed t.traffic.told) talks) l) entries joined.entries

  pub theirs : AllPairs (λ (a b : Talk). a.name ≢ b.name) talks → All (λ t. owned history t.name (length found) ≡ printed t.traffic.told) talks
  theirs apart = shares_are (λ (t : Talk). t.name) (λ t. printed t.traffic.told) (λ n p. is_owned n (slice_get history p)) (one_owner history)
      (positions (length found) (length history - length found)) talks apart all_shares (Ordered-positions (length found) (length history - length found))
      (λ k d below. let s = replies k d below in let t : Talk = get_or talks k d in printed_owned history t.name (callers t.name) (named t.name) 1 least t.rules t.traffic.told s.given)
      (λ k d below. let s = replies k d below in let t : Talk = get_or talks k d in printed_ordered history t.name (callers t.name) (named t.name) 1 least t.rules t.traffic.told s.given s.points)

  abbrev IsSomeones : ℕ → Type 0
  IsSomeones p = (e : Entry) → slice_get history p ≡ Some e → Any (λ (t : Talk). e.owner ≡ t.name) talks

  pub owners : All (λ e. Any (λ (t : Talk). e.owner ≡ t.name) talks) (drop (length found) history)
  owners = λ k d below. let long = length-drop (length found) history in
      All-positions IsSomeones (length found) (length history - length found)
      (All-permutation IsSomeones (flat_map (λ (t : Talk). printed t.traffic.told) talks) (positions (length found) (length history - length found)) all_shares
      (All-flat_map IsSomeones (λ (t : Talk). printed t.traffic.told) talks (λ j b less.
      let t : Talk = get_or talks j b in
      All-weaker (λ p. is_owned t.name (slice_get history p) ≡ true) IsSomeones
      (λ p its e at. (j, t, less, get_or_default talks j t b less, owner_there history t.name p e its at))
      (printed t.traffic.told) (printed_owned history t.name (callers t.name) (named t.name) 1 least t.rules t.traffic.told (replies j b less).given))))
      k (omega arith) (get_or (drop (length found) history) k d) (slice_get-drop history (length found) k d below)

pub run_is : {D : Type 0} (disk_faults : D → ℕ) (shared : Shared D) (left : Ledger D) (first last : Mark) (v : Sight) (talks : List Talk)
    → AreJoined shared v talks → AllPairs (λ (a b : Talk). a.name ≢ b.name) talks
    → StartsWith left.entries (found_at shared.gate) → All (λ list. StartsWith left.entries list) v.joined
    → own v.turns ≡ positions (length (found_at shared.gate)) (length left.entries - length (found_at shared.gate))
    → rises v.turns + disk_faults (opened shared.gate).disk ≡ disk_faults left.disk → IsChain 0 first v.turns last → last.count ≡ disk_faults left.disk
    → IsLegal (timetable_at shared.gate) left.entries → first.settled ≡ first.entries → last.entries ≡ length left.entries → last.settled ≡ settled_of left
    → IsRun disk_faults shared.known (opened shared.gate) left talks
run_is disk_faults shared left first last v talks joined apart begins ends entries rise chain ended legal settled long last_settled = record {
  begins = begins;
  legal = legal;
  replies = joined.replies left.entries ends;
  proved = joined.proved left.entries ends;
  entries = theirs shared left.entries v talks joined ends entries apart;
  owners = owners shared left.entries v talks joined ends entries;
  count = ⊎_elim (λ below. inr (let within = joined.counts (All-weaker (IsWithin 0 (length v.turns) first last) (λ t. t.left.count < 2 ^ 64 - 1) (λ t w. let c = w.counted in omega arith) v.turns (chain_all 0 (length v.turns) first last v.turns (omega arith) chain)) in omega arith))
      (λ above. inl above) (cases_lt (disk_faults left.disk) (2 ^ 64 - 1));
  settled_left = let all : List ℕ = flat_map (λ (t : Talk). unsettled t.traffic.told) talks in
      subst (λ n. (n ≡ length left.entries) ⊎ ((n + 1 ≡ length left.entries) × Contains all n)) last_settled
      (⊎_elim (λ e. inl (e ∙ long)) (λ e. inr (e.0 ∙ long, e.1)) (told_at_end all 0 first last v.turns chain (inl settled) joined.told_so));
  settled_replies = let all : List ℕ = flat_map (λ (t : Talk). unsettled t.traffic.told) talks in
      subst (λ n. All (λ (t : Talk). All (IsWithinSettled n) t.traffic.told) talks) last_settled
      (joined.settled last.settled (settled_by_end all 0 first last v.turns chain (inl settled) joined.told_so).1);
}

-- the timetable of a footing
abbrev pub timetable_in : Footing → Timetable
timetable_in f = record { net = f.net; settings = f.base.settings; base = f.base.claims }
