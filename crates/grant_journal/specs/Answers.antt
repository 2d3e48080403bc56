-- What a call leaves of a journal with its moments, by its answer.
use Rattle.std.specs.Prelude.{◌≡◌, ◌⊎◌, ◌<◌, ℕ, List, [], ◌∷◌, ◌++◌, length}
use Rattle.outside_io.specs.declared.disks.Disk.{Ghosts}
use Rattle.grant_journal.specs.declared.journals.Written.{Written}
use Rattle.grant_journal.specs.declared.journals.Written.TheVariants.{Done, Fault}
use Rattle.grant_journal.specs.declared.journals.Stage.TheVariants.{Record, Gate}
use Rattle.grant_journal.specs.declared.journals.Settled.{Settled}
use Rattle.grant_journal.specs.declared.journals.Settled.TheVariants.{Done as Put, Fault as Failed}
use Rattle.grant_journal.specs.Histories.{ReadsAs, ReadsAsEither, ReadsAsPrefix}
use Rattle.grant_journal.specs.Timed.{Timed, settled_of}
use Rattle.grant_journal.specs.Keeping.{Keeps, Left}

-- the history that is kept, the moments, and what a crash left meanwhile
pub record Leaves {D : Type 0} (disk : Ghosts D) (old new : Timed D) (header : List ℕ)
    (bodies : List (List ℕ)) (noted : List ℕ) (P : List ℕ → Type 0) : Type 0 where
  pub keeps : Keeps disk new header bodies
  pub moments : new.moments ≡ noted
  pub left : Left disk old.journal.disk new.journal.disk P

-- the history before and after an entry
abbrev pub with_body : List (List ℕ) → List ℕ → List (List ℕ)
with_body bodies body = bodies ++ body ∷ []

-- once it is done the entry is settled, and the moment is kept; after a fault of the record the
-- history is as before; and after a fault of the gate the entry is pending
abbrev pub Enters : {D : Type 0} → Ghosts D → Timed D → Timed D → List ℕ → List (List ℕ) → List ℕ
    → Written → Type 0
Enters disk old new header bodies body Done =
    Leaves disk old new header (with_body bodies body)
    (old.moments ++ disk.clock new.journal.disk ∷ [])
    (ReadsAsEither header bodies (with_body bodies body))
Enters disk old new header bodies body (Fault Record) =
    Leaves disk old new header bodies old.moments (ReadsAs header bodies)
Enters disk old new header bodies body (Fault Gate) =
    Leaves disk old new header (with_body bodies body) old.moments
    (ReadsAsEither header bodies (with_body bodies body))

-- the moment of the last entry is kept where it was pending; else nothing has changed
abbrev pub HasSettled : {D : Type 0} → Ghosts D → Timed D → Timed D → List (List ℕ) → Type 0
HasSettled disk old new bodies =
    (settled_of new ≡ length bodies)
    × (((settled_of old ≡ length bodies) × (new ≡ old))
    ⊎ ((settled_of old < length bodies)
    × (new.moments ≡ old.moments ++ disk.clock new.journal.disk ∷ [])))

abbrev pub Settles : {D : Type 0} → Ghosts D → Timed D → Timed D → List ℕ → List (List ℕ) → Settled
    → Type 0
Settles disk old new header bodies Put =
    Leaves disk old new header bodies new.moments (ReadsAsPrefix header bodies (settled_of old))
    × HasSettled disk old new bodies
Settles disk old new header bodies Failed =
    Leaves disk old new header bodies old.moments (ReadsAsPrefix header bodies (settled_of old))
    × (settled_of old < length bodies)
