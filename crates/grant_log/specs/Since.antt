-- What entries have brought and freed since a copy of the claims was made.
use Rattle.std.specs.Prelude.{◌≡◌, ℕ, ◌<◌, ◌≤◌, List, [], drop, Option, Some, None, slice_get, All}
use Rattle.std.specs.Prelude.{Any}
use Rattle.rail_types.specs.declared.paths.Claim.{Claim}
use Rattle.rail_types.specs.declared.entries.Entry.{Entry}
use Rattle.rail_types.specs.declared.entries.Deed.TheVariants.{Free}
use Rattle.rail_types.specs.Occupation.{HeldClaim}
use Rattle.rail_types.specs.Timetables.{Timetable}
use Rattle.grant_log.specs.Live.{claims_of, live_from}
use Rattle.grant_log.specs.declared.copy_since.since.Freed.{Freed}

abbrev pub claims_of_some : Timetable → Option Entry → List Claim
claims_of_some timetable None = []
claims_of_some timetable (Some entry) = claims_of timetable entry.deed

-- the claims of the entry at a position, none where no entry stands there
abbrev pub claims_at : Timetable → List Entry → ℕ → List Claim
claims_at timetable entries at = claims_of_some timetable (slice_get entries at)

-- an entry from a position on frees the one at another
pub record IsFreedFrom (entries : List Entry) (front at : ℕ) : Type 0 where
  pub by : ℕ
  pub entry : Entry
  pub later : front ≤ by
  pub here : slice_get entries by ≡ Some entry
  pub frees : entry.deed ≡ Free at

-- inside: an entry before a position that one from there on frees, with its claims
pub record IsFreedSince (timetable : Timetable) (entries : List Entry) (front : ℕ)
    (one : Freed) : Type 0 where
  pub before : one.at < front
  pub claims : one.claims ≡ claims_at timetable entries one.at
  pub freed : IsFreedFrom entries front one.at

-- inside: all of them, as far as entries below a position free them
pub record AreFreedBelow (timetable : Timetable) (entries : List Entry) (front below : ℕ)
    (all : List Freed) : Type 0 where
  pub each : All (IsFreedSince timetable entries front) all
  pub whole : (at by : ℕ) (entry : Entry) → at < front → front ≤ by → by < below
      → slice_get entries by ≡ Some entry → entry.deed ≡ Free at → Any (λ one. one.at ≡ at) all

-- the live claims of the entries from a position on
abbrev pub brought_since : Timetable → List Entry → ℕ → List HeldClaim
brought_since timetable entries front = live_from timetable entries front (drop front entries)
