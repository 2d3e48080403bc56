-- Where an entry is kept, one stands at its position.
use Rattle.std.proofs.Common.{◌≡◌, ◌≢◌, ℕ, List, length, ap, ◌∙◌, subst}
use Rattle.rail_types.specs.declared.entries.Entry.{Entry}
use Rattle.rail_types.specs.declared.paths.Claim.{Claim}
use Rattle.rail_types.specs.Timetables.{Timetable}
use Rattle.path_commit.specs.history.declared.verdicts.Verdict.{Verdict}
use Rattle.path_commit.specs.history.declared.verdicts.Verdict.TheVariants as verdict
use Rattle.path_commit.specs.history.Live.{claims_of, live_claims}
use Rattle.path_commit.specs.history.Meanings.{Says}
use Rattle.path_commit.specs.history.Verdict.{verdict_on}
use Rattle.path_commit.specs.Answers.{IsTaken}
use Rattle.path_commit.specs.Clashes.{IsLastClash, NoneClashesFrom}
use Rattle.path_commit.specs.Ledgers.{Ledger}
use Rattle.ask_turns.specs.declared.client_turns.told.Entered.TheVariants as entered
use Rattle.ask_turns.specs.declared.client_turns.told.Refusal.{Refusal}
use Rattle.ask_turns.specs.declared.client_turns.told.Tried.TheVariants as tried
use Rattle.ask_turns.specs.Told.{IsRefusal, Stands, TriesIn}

pub said_stands : (timetable : Timetable) (entries : List Entry) (entry : Entry) (told : Verdict)
    → Says timetable entries entry told → Stands entries told
said_stands timetable entries entry (verdict.Kept at) says = (says.0.0, says.0.1.here)
said_stands timetable entries entry (verdict.Gone at freer) says = tt
said_stands timetable entries entry (verdict.Other at) says = tt
said_stands timetable entries entry (verdict.BreaksRequest rule) says = tt
said_stands timetable entries entry (verdict.Taken claim owner) says = tt
said_stands timetable entries entry verdict.Unknown says = tt
said_stands timetable entries entry (verdict.NotYours owner) says = tt
said_stands timetable entries entry (verdict.AlreadyFreed freer) says = tt
said_stands timetable entries entry verdict.Fresh says = tt

pub none_from : (timetable : Timetable) (entries : List Entry) (claims : List Claim) (front : ℕ)
    → front ≡ length entries
    → ((at : ℕ) → ¬ IsLastClash (live_claims timetable entries) claims (length entries) at)
    → (at : ℕ) → ¬ IsLastClash (live_claims timetable entries) claims front at
none_from timetable entries claims front is law at last =
    law at (subst (λ n. IsLastClash (live_claims timetable entries) claims n at) is last)

-- what became of an entry that was refused, by what the book told of it
pub tries_refused : {D : Type 0} (faults : D → ℕ) (old new : Ledger D) (entry : Entry) (searched : ℕ)
    (said : Verdict) (told : Refusal) (list : List Entry) → new ≡ old → list ≡ new.entries
    → (said ≡ verdict_on old.timetable old.entries entry) × (said ≢ verdict.Fresh)
    × (IsTaken said
    → NoneClashesFrom (live_claims old.timetable old.entries) (claims_of old.timetable entry.deed) searched)
    → IsRefusal list said told
    → TriesIn faults entry searched old new (tried.Entered (entered.Refused told))
tries_refused {D} faults old new entry searched said told list same here is refusal = (
  (
    same,
    subst (λ v. v ≢ verdict.Fresh) is.0 is.1,
    subst (λ v. IsRefusal old.entries v told) is.0
        (subst (λ l. IsRefusal l said told) (here ∙ ap (λ (b : Ledger D). b.entries) same) refusal),
  ),
  subst (λ v. IsTaken v → NoneClashesFrom (live_claims old.timetable old.entries) (claims_of old.timetable entry.deed) searched)
      is.0 is.2,
)
