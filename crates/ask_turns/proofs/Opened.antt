-- A book that was taken out, settled and looked at.
use Rattle.std.proofs.Common.{◌≡◌, ℕ, ◌+◌, ◌<◌, ◌≤◌, length, ap, sym, ◌∙◌, subst, refl, arith}
use mathlib.Core.Logic.{⊎_elim}
use Rattle.path_commit.specs.journal.Causes.{HasSettleCause}
use Rattle.path_commit.specs.journal.declared.journals.Settled.{Settled}
use Rattle.path_commit.specs.journal.declared.journals.Settled.TheVariants.{Done as Put}
use Rattle.path_commit.specs.journal.declared.journals.Settled.TheVariants.{Fault as Failed}
use Rattle.outside_io.specs.Faults.{Rose}
use Rattle.outside_io.specs.declared.disks.Disk.{Ghosts}
use Rattle.path_commit.specs.declared.stands.Footing.{Footing}
use Rattle.path_commit.specs.Answers.{Settles}
use Rattle.path_commit.specs.Footings.{footing_of}
use Rattle.path_commit.specs.Ledgers.{Ledger, settled_of}
use Rattle.ask_turns.specs.Turns.{Sight}
use Rattle.ask_turns.proofs.Ended.{stands}

-- the book as the gate gave it, as it was settled, and what came of that
module _ {D : Type 0} (faults : D → ℕ) (m : Sight) (given old new : Ledger D)
    (found : m.found ≡ stands faults given) (lent : old ≡ given) (entries : new.entries ≡ old.entries) where
  pub list : new.entries ≡ m.found.list
  list = entries ∙ ap (λ (b : Ledger D). b.entries) lent ∙ sym (ap (λ s. s.list) found)

  settled_then : m.found.settled ≡ settled_of old
  settled_then = ap (λ s. s.settled) found ∙ sym (ap settled_of lent)

  pub count_then : m.found.count ≡ faults old.disk
  count_then = ap (λ s. s.count) found ∙ sym (ap (λ (b : Ledger D). faults b.disk) lent)

  long : length old.entries ≡ length m.found.list
  long = ap length (sym entries ∙ list)

  pub pending : settled_of old < length old.entries → m.found.settled < length m.found.list
  pending less = let a = settled_then in let b = long in omega arith

  pub within : settled_of old ≤ length old.entries → m.found.settled ≤ length m.found.list
  within less = let a = settled_then in let b = long in omega arith

  pub still_pending : footing_of new ≡ footing_of old → new.moments ≡ old.moments → settled_of new ≡ m.found.settled
  still_pending footing moments =
      let a : new.found ≡ old.found = ap (λ (f : Footing). f.found) footing in
      let b : length new.moments ≡ length old.moments = ap length moments in
      let c : m.found.settled ≡ old.found + length old.moments = settled_then in
      omega arith

  pub rose : Rose (faults old.disk) (faults new.disk) → Rose m.found.count (faults new.disk)
  rose told = subst (λ n. Rose n (faults new.disk)) (sym count_then) told

-- what a settling that is done leaves
pub record IsPut {D : Type 0} (old new : Ledger D) (before now : ℕ) : Type 0 where
  pub settled : settled_of new ≡ length old.entries
  pub was : settled_of old ≤ length old.entries
  pub quiet : now ≡ before

pub settled_put : {D : Type 0} (disk : Ghosts D) (old new : Ledger D) (before now : ℕ) (told : Settled)
    → (told ≡ Failed → ⊥) → Settles disk old new told → HasSettleCause before now told
    → IsPut old new before now
settled_put disk old new before now Put done settles cause = record {
  settled = settles.0;
  was = ⊎_elim (λ all. let a = all.0 in omega arith) (λ less. let a = less.0 in omega arith) settles.1;
  quiet = cause;
}
settled_put disk old new before now Failed done settles cause = absurd (done refl)

-- the book of an open turn
pub record IsUp {D : Type 0} (faults : D → ℕ) (m : Sight) (now : Ledger D) : Type 0 where
  pub list : now.entries ≡ m.found.list
  pub within : m.found.settled ≤ length m.found.list
  pub counts : faults now.disk ≡ m.found.count
  pub settled : settled_of now ≡ length now.entries

pub up : {D : Type 0} (faults : D → ℕ) (m : Sight) (given old new now : Ledger D)
    → m.found ≡ stands faults given → old ≡ given → new.entries ≡ old.entries
    → IsPut old new (faults old.disk) (faults new.disk) → now ≡ new → IsUp faults m now
up faults m given old new now found lent entries put again =
    subst (IsUp faults m) (sym again) record {
      list = list faults m given old new found lent entries;
      within = within faults m given old new found lent entries put.was;
      counts = put.quiet ∙ sym (count_then faults m given old new found lent entries);
      settled = put.settled ∙ ap length (sym entries);
    }

pub no_more : (before now : ℕ) → now ≡ before → before ≤ now
no_more before now same = omega arith
