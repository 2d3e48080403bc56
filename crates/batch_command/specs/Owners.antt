-- Numbers of lines that stand in a history already, and the workers whose they are.
use Rattle.std.specs.Prelude.{◌≡◌, ℕ, ◌+◌, ◌<◌, ◌≤◌, Bool, true, false, List, [], ◌∷◌, Option, None}
use Rattle.std.specs.Prelude.{Some, if◌then◌else◌, is_some, map}
use Rattle.std.specs.List.{list_any}
use Rattle.command_line.specs.Workers.{worker_name}
use Rattle.command_line.specs.declared.batch_words.clients.TheConstants.{MAX_WORKERS}
use Rattle.served_clients.specs.history.Verdict.{place_of}
use Rattle.rail_types.specs.declared.entries.Entry.{Entry}

-- whether the owner's number stands in the history
abbrev pub stands : List Entry → List ℕ → ℕ → Bool
stands entries owner number = is_some (place_of entries owner number)

-- ---- the worker whose a number is

-- the first of these workers under whose name the number stands, where the
-- first of them is at this place
abbrev pub owner_from : List Entry → ℕ → List (List ℕ) → ℕ → Option ℕ
owner_from entries at [] number = None
owner_from entries at (worker ∷ workers) number =
    if stands entries worker number then Some at else owner_from entries (at + 1) workers number

-- the same of the number of a line, where it has one
abbrev pub owner_of : List Entry → List (List ℕ) → Option ℕ → Option ℕ
owner_of entries workers None = None
owner_of entries workers (Some number) = owner_from entries 0 workers number

-- the same of all lines, by their numbers
abbrev pub owners_of : List Entry → List (List ℕ) → List (Option ℕ) → List (Option ℕ)
owners_of entries workers numbers = map (owner_of entries workers) numbers

-- ---- workers that are not there

-- whether the number of a line, where it has one, stands under the owner
abbrev pub stands_under : List Entry → List ℕ → Option ℕ → Bool
stands_under entries owner None = false
stands_under entries owner (Some number) = stands entries owner number

-- whether one of the numbers does
abbrev pub needs : List Entry → List ℕ → List (Option ℕ) → Bool
needs entries owner numbers = list_any (stands_under entries owner) numbers

-- none of the numbers stands under the name of a worker behind the first so many
abbrev pub AreEnough : List Entry → (batch : List ℕ) → (workers : ℕ) → List (Option ℕ) → Type 0
AreEnough entries batch workers numbers = (other : ℕ) → workers < other → other ≤ MAX_WORKERS
    → needs entries (worker_name batch other) numbers ≡ false

-- one of the numbers stands under the name of this worker, which is behind the first so many, and
-- none under that of a later one
pub record IsNeeded (entries : List Entry) (batch : List ℕ) (workers : ℕ)
    (numbers : List (Option ℕ)) (worker : ℕ) : Type 0 where
  pub behind : workers < worker
  pub within : worker ≤ MAX_WORKERS
  pub needed : needs entries (worker_name batch worker) numbers ≡ true
  pub last : AreEnough entries batch worker numbers
