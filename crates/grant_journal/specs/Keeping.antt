-- What a journal keeps of a history, and what its moments tell.
use Rattle.std.specs.Prelude.{◌≡◌, ◌⊎◌, ℕ, ◌+◌, ◌≤◌, ◌<◌, ◌^◌, List, [], ◌∷◌, ◌++◌, length}
use Rattle.std.specs.Prelude.{slice_index, All}
use Rattle.outside_io.specs.Disks.{Spans}
use Rattle.outside_io.specs.declared.disks.Disk.{Ghosts}
use Rattle.grant_journal.specs.Gates.{Gated}
use Rattle.grant_journal.specs.Journals.{IsAtRest, IsPending}
use Rattle.grant_journal.specs.Histories.{counted, front_of, ReadsAsPrefix}
use Rattle.grant_journal.specs.Timed.{Timed}

-- each image since a moment reads as a prefix of the history, which has the
-- first entries up to this count
abbrev pub HasSince : {D : Type 0} → (D → ℕ → List ℕ → Type 0) → D → ℕ → List ℕ → List (List ℕ) → ℕ
    → Type 0
HasSince since disk moment header bodies least =
    (image : List ℕ) → since disk moment image → ReadsAsPrefix header bodies least image

-- what the moments tell: each image since the making reads as a prefix of the history
-- that has the entries found then, and each image since the moment kept for an entry
-- reads as a prefix that has that entry
pub record Remembers {D : Type 0} (clock : D → ℕ) (since : D → ℕ → List ℕ → Type 0) (disk : D)
    (header : List ℕ) (bodies : List (List ℕ)) (made found : ℕ) (moments : List ℕ) : Type 0 where
  pub made_before : made ≤ clock disk
  pub since_made : HasSince since disk made header bodies found
  pub settled_before : (k : ℕ) → k < length moments → slice_index moments k ≤ clock disk
  pub since_settled : (k : ℕ) → k < length moments
      → HasSince since disk (slice_index moments k) header bodies (found + k + 1)

-- the last entry is begun and not settled
pub record LastIsPending {D : Type 0} (images : D → List ℕ → Type 0) (journal : Gated D)
    (header : List ℕ) (bodies : List (List ℕ)) (settled : ℕ) : Type 0 where
  pub before : List (List ℕ)
  pub body : List ℕ
  pub last : bodies ≡ before ++ (body ∷ [])
  pub count : settled ≡ length before
  pub pending : IsPending images journal (front_of header before) (counted body)

-- all entries are settled
pub record AllAreSettled {D : Type 0} (images : D → List ℕ → Type 0) (journal : Gated D)
    (header : List ℕ) (bodies : List (List ℕ)) (settled : ℕ) : Type 0 where
  pub count : settled ≡ length bodies
  pub rest : IsAtRest images journal (front_of header bodies)

-- what is kept: each image of now reads as the history, or, where its last entry is pending, as the
-- history with it or without; and what the moments tell
pub record IsKept {D : Type 0} (images : D → List ℕ → Type 0) (clock : D → ℕ)
    (since : D → ℕ → List ℕ → Type 0)
    (journal : Gated D) (header : List ℕ) (bodies : List (List ℕ)) (made found : ℕ)
    (moments : List ℕ) : Type 0 where
  pub now : AllAreSettled images journal header bodies (found + length moments)
      ⊎ LastIsPending images journal header bodies (found + length moments)
  pub short : All (λ body. length body < 2 ^ 32) bodies
  pub remembers : Remembers clock since journal.disk header bodies made found moments

-- the same of a journal with its moments
abbrev pub Keeps : {D : Type 0} → Ghosts D → Timed D → List ℕ → List (List ℕ) → Type 0
Keeps disk timed header bodies =
    IsKept disk.images disk.clock disk.since timed.journal header bodies timed.made timed.found
    timed.moments

-- a crash at each moment from the old state of a disk to the new one left what has P, the
-- moment of the old state among them
pub record Left {D : Type 0} (disk : Ghosts D) (old new : D) (P : List ℕ → Type 0) : Type 0 where
  pub spans : Spans disk.clock disk.since old new P
  pub began : (image : List ℕ) → disk.since new (disk.clock old) image → P image
