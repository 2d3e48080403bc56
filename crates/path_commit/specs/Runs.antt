-- Many turns, one after another.
use Rattle.std.specs.Prelude.{◌≡◌, ◌⊎◌, ℕ, ◌<◌, List, [], ◌∷◌, ◌++◌, length, min, Some, slice_get}
use Rattle.std.specs.Prelude.{All}
use Rattle.rail_types.specs.declared.entries.Entry.{Entry}
use Rattle.rail_types.specs.Timetables.{Timetable}
use Rattle.outside_io.specs.declared.disks.Disk.{Ghosts}
use Rattle.grant_journal.specs.declared.journals.Settled.TheVariants.{Done as Put, Fault as Failed}
use Rattle.grant_log.specs.Legal.{IsInRange}
use Rattle.path_commit.specs.declared.answers.Committed.{Committed}
use Rattle.path_commit.specs.declared.answers.Committed.TheVariants.{Done, DiskFault, Unsettled}
use Rattle.path_commit.specs.declared.answers.Committed.TheVariants.{Memory}
use Rattle.path_commit.specs.declared.turns.Sent.{Sent}
use Rattle.path_commit.specs.Answers.{Commits, IsTold, Settles}
use Rattle.path_commit.specs.Footings.{footing_of}
use Rattle.path_commit.specs.Ledgers.{Ledger, settled_of}

-- the history and the moments go on, on the same footing
pub record Grows {D : Type 0} (old new : Ledger D) : Type 0 where
  pub footing : footing_of new ≡ footing_of old
  pub more : List Entry
  pub entries : new.entries ≡ old.entries ++ more
  pub later : List ℕ
  pub moments : new.moments ≡ old.moments ++ later

-- A turn that found one book and left another tells what its calls do: that there was no memory,
-- before anything was done; or that what was pending could not be settled; or, from the settled
-- book on, what the commit tells. A front that was searched counts as that of the book at most.
abbrev pub IsTurn : {D : Type 0} → Ghosts D → Ledger D → Ledger D → Sent → Committed → Type 0
IsTurn {D} disk old new sent answer =
    ((answer ≡ Memory) × (new ≡ old))
    ⊎ ((answer ≡ DiskFault) × Settles disk old new Failed)
    ⊎ ((settled : Ledger D) × Settles disk old settled Put
    × IsTold settled.timetable settled.entries sent.entry
    (min sent.searched (length settled.entries)) answer
    × Commits disk settled new sent.entry answer)

-- the turns of what was sent, one after another, tell these answers: as many as were sent
abbrev pub AreTurns : {D : Type 0} → Ghosts D → Ledger D → List Sent → List Committed → Ledger D
    → Type 0
AreTurns disk old [] [] new = new ≡ old
AreTurns disk old (one ∷ sent) [] new = ⊥
AreTurns disk old [] (answer ∷ answers) new = ⊥
AreTurns {D} disk old (one ∷ sent) (answer ∷ answers) new =
    (next : Ledger D) × IsTurn disk old next one answer × AreTurns disk next sent answers new

-- an entry that was told done stands settled at its position, and one that
-- was told unsettled stands there
abbrev pub IsAnswered : {D : Type 0} → Ledger D → Entry → Committed → Type 0
IsAnswered ledger entry (Done at) =
    (at < settled_of ledger) × (slice_get ledger.entries at ≡ Some entry)
IsAnswered ledger entry (Unsettled at) = slice_get ledger.entries at ≡ Some entry
IsAnswered ledger entry other = Unit {0}

-- each of these answers is right
abbrev pub AreAnswered : {D : Type 0} → Ledger D → List Sent → List Committed → Type 0
AreAnswered ledger sent answers =
    (k : ℕ) (one : Sent) (answer : Committed) → slice_get sent k ≡ Some one
    → slice_get answers k ≡ Some answer → IsAnswered ledger one.entry answer

-- the numbers of each entry are in range
abbrev pub AreInRange : Timetable → List Sent → Type 0
AreInRange timetable sent = All (λ one. IsInRange timetable one.entry) sent
