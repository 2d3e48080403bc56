-- What may come of an ask: a path that fits, and why none of three that were found was granted.
use Rattle.std.specs.Prelude.{◌≡◌, ◌<◌, ℕ, List, length, map}
use Rattle.book_gate.specs.Views.{StartsWith}
use Rattle.blocking_time.specs.Possible.{CanBeGranted, IsPossible}
use Rattle.path_commit.specs.history.Live.{claims_of, live_claims}
use Rattle.path_commit.specs.Clashes.{IsLastClash}
use Rattle.path_labels.specs.Answers.{IsEarliest}
use Rattle.rail_types.specs.declared.entries.Deed.TheVariants.{Grant}
use Rattle.rail_types.specs.declared.entries.Entry.{Entry}
use Rattle.rail_types.specs.declared.entries.Wanted.TheVariants.{Asked}
use Rattle.rail_types.specs.declared.paths.Claim.{Claim}
use Rattle.rail_types.specs.declared.paths.Path.{Path}
use Rattle.rail_types.specs.declared.trains.Request.{Request}
use Rattle.rail_types.specs.Timetables.{Timetable}

-- the claims that are live in a history, whoever holds them
abbrev pub live_in : Timetable → List Entry → List Claim
live_in timetable entries = map (λ held. held.0) (live_claims timetable entries)

-- the path keeps the request, and fits beside the live claims of these entries
abbrev pub FitsAt : Timetable → Request → List Entry → Path → Type 0
FitsAt timetable request entries path =
    CanBeGranted timetable.net timetable.settings (live_in timetable entries) request path

-- the same, and no path that keeps the request and fits there leaves last earlier
abbrev pub IsEarliestAt : Timetable → Request → List Entry → Path → Type 0
IsEarliestAt timetable request entries path =
    IsEarliest timetable.net timetable.settings (live_in timetable entries) request path

-- a path keeps the request and fits at these entries
abbrev pub IsPossibleAt : Timetable → Request → List Entry → Type 0
IsPossibleAt timetable request entries =
    IsPossible timetable.net timetable.settings (live_in timetable entries) request

-- A path that fitted where a search stood was missed at a later history: entries since have live
-- claims that clash with it, the last of them at this position.
pub record IsMissed (timetable : Timetable) (request : Request) (searched found : List Entry)
    (at : ℕ) : Type 0 where
  pub later : StartsWith found searched
  pub more : length searched < length found
  pub path : Path
  pub fitted : FitsAt timetable request searched path
  pub clash : IsLastClash (live_claims timetable found)
      (claims_of timetable (Grant (Asked request) path)) (length searched) at

-- three searches, the first in h, each next one where the one before was missed; the third stood at
-- so many entries, and was missed in g by the entry at this position
pub record AreMissed (timetable : Timetable) (request : Request) (h g : List Entry)
    (searched at : ℕ) : Type 0 where
  pub second : List Entry
  pub third : List Entry
  pub first_at : ℕ
  pub second_at : ℕ
  pub misses_first : IsMissed timetable request h second first_at
  pub misses_second : IsMissed timetable request second third second_at
  pub misses_third : IsMissed timetable request third g at
  pub stood : searched ≡ length third
