-- Inside: work that waits, in buckets.
use Rattle.std.specs.Prelude.{◌≡◌, ℕ, ◌<◌, ℤ, pos, ◌+ℤ◌, ◌≤ℤ◌, List, [], Contains}
use Rattle.std.specs.List.{slice_index_or}
use Rattle.label_search.specs.declared.queues.Due.{Due}

-- the buckets, and the tick of the first of them
pub record Pending : Type 0 where
  pub buckets : List (List Due)
  pub start : ℤ

-- a bucket has the work
abbrev pub Waits : Pending → Due → Type 0
Waits queue due = (at : ℕ) × Contains (slice_index_or queue.buckets at []) due

-- no work is due before a tick
abbrev pub AreDueFrom : Pending → ℤ → Type 0
AreDueFrom queue tick = (due : Due) → Waits queue due → tick ≤ℤ due.tick

-- the buckets before one are empty
abbrev pub HasNoneBefore : List (List Due) → ℕ → Type 0
HasNoneBefore buckets first = (at : ℕ) → at < first → slice_index_or buckets at [] ≡ []

-- work in a bucket behind the first one is due no earlier than at the tick of the bucket
abbrev pub AreBehind : List (List Due) → ℤ → Type 0
AreBehind buckets start = (at : ℕ) (due : Due) → Contains (slice_index_or buckets at []) due
    → 0 < at → (start +ℤ pos at) ≤ℤ due.tick

pub record IsQueue (buckets : List (List Due)) (first : ℕ) (start : ℤ) : Type 0 where
  pub begun : pos 0 ≤ℤ start
  pub none : HasNoneBefore buckets first
  pub behind : AreBehind buckets start
