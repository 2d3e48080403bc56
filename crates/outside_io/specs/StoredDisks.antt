-- A disk in memory, as its callers see it: what it held at first, and the calls that
-- changed what a crash may leave.
use Rattle.std.specs.Prelude.{◌≡◌, ◌⊎◌, ℕ, ◌+◌, ◌-◌, ◌≤◌, List, [], ◌∷◌, length}
use Rattle.outside_io.specs.Disks.{Torn, write_over}

-- a write of a piece at a place, done or failed, or a sync that was done
pub data Change : Type 0 where
  wrote : ℕ → List ℕ → Change
  failed_at : ℕ → ℕ → Change
  synced : Change

-- the bytes after these changes, the newest of which stands first
abbrev pub contents_after : List ℕ → List Change → List ℕ
contents_after first [] = first
contents_after first (wrote at piece ∷ changes) = write_over at piece (contents_after first changes)
contents_after first (failed_at at count ∷ changes) = contents_after first changes
contents_after first (synced ∷ changes) = contents_after first changes

-- the bytes when the last sync was done
abbrev pub contents_synced : List ℕ → List Change → List ℕ
contents_synced first [] = first
contents_synced first (wrote at piece ∷ changes) = contents_synced first changes
contents_synced first (failed_at at count ∷ changes) = contents_synced first changes
contents_synced first (synced ∷ changes) = contents_after first changes

-- what a crash after these changes may leave
abbrev pub IsImageAfter : List ℕ → List Change → List ℕ → Type 0
IsImageAfter first [] image = image ≡ first
IsImageAfter first (wrote at piece ∷ changes) image =
    (before : List ℕ) × IsImageAfter first changes before × Torn at (length piece) before image
IsImageAfter first (failed_at at count ∷ changes) image =
    (before : List ℕ) × IsImageAfter first changes before × Torn at count before image
IsImageAfter first (synced ∷ changes) image = image ≡ contents_after first changes

-- what a crash might have left at some moment from this one on, where the moment is
-- the number of changes so far
abbrev pub IsImageSince : List ℕ → List Change → ℕ → List ℕ → Type 0
IsImageSince first [] moment image = (moment ≤ 0) × IsImageAfter first [] image
IsImageSince first (change ∷ changes) moment image =
    ((moment ≤ length changes + 1) × IsImageAfter first (change ∷ changes) image)
    ⊎ IsImageSince first changes moment image

-- what the disk held at first, its changes, the newest first, how much room it was given and has
-- left, how many calls there were and which of them fail, how many of them were syncs and which of
-- these fail, and how many calls failed
pub record DiskInMemory : Type 0 where
  pub first : List ℕ
  pub changes : List Change
  pub given : ℕ
  pub room : ℕ
  pub calls : ℕ
  pub fails : List ℕ
  pub syncs : ℕ
  pub failing_syncs : List ℕ
  pub faults : ℕ

-- the room that a write of so many bytes at a place uses: 1, the bytes, and those
-- between the old end and the place
abbrev pub room_used : DiskInMemory → ℕ → ℕ → ℕ
room_used disk at count = (at - length (contents_after disk.first disk.changes)) + count + 1
