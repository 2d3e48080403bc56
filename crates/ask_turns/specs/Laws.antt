-- What is known of paths that were found. *inside*
use Rattle.std.specs.Prelude.{◌≢◌, ℕ, List, All, length}
use Rattle.blocking_time.specs.Possible.{CanBeGranted}
use Rattle.book_gate.specs.Views.{StartsWith}
use Rattle.path_commit.specs.history.declared.verdicts.Verdict.TheVariants.{Fresh}
use Rattle.path_commit.specs.history.Legal.{Joins}
use Rattle.path_commit.specs.history.Verdict.{verdict_on}
use Rattle.path_commit.specs.Answers.{IsTaken}
use Rattle.rail_types.specs.declared.entries.Entry.{Entry}
use Rattle.rail_types.specs.declared.entries.Settings.{Settings}
use Rattle.rail_types.specs.declared.paths.Claim.{Claim}
use Rattle.rail_types.specs.declared.paths.Path.{Path}
use Rattle.rail_types.specs.declared.tracks.Network.{Network}
use Rattle.rail_types.specs.Limits.{IsAnswered}
use Rattle.rail_types.specs.Occupation.{HasTicks}
use Rattle.rail_types.specs.Timetables.{Timetable}
use Rattle.client_lines.specs.Rooms.{PrintsRuns}
use Rattle.ask_turns.specs.declared.client_turns.told.Refusal.{Refusal}
use Rattle.ask_turns.specs.Told.{IsRefusal, IsTakenBefore, IsTakenSince}
use Rattle.ask_turns.specs.declared.asks.Ask.{Ask}
use Rattle.ask_turns.specs.Finds.{IsNewNumber, MayBeSearched, entry_for}
use Rattle.ask_turns.specs.Searched.{FitsAt, IsMissed, live_in}
use Rattle.ask_turns.specs.Tries.{IsOfNumber}

-- a path that can be granted has runs within their limits, few enough to print
pub record AreShort : Type 0 where
  pub answered : (net : Network) (settings : Settings) (live : List Claim) (ask : Ask) (path : Path)
      → MayBeSearched net settings ask → CanBeGranted net settings live ask.request path
      → IsAnswered ask.request path
  pub prints : (net : Network) (settings : Settings) (live : List Claim) (ask : Ask) (path : Path)
      → MayBeSearched net settings ask → CanBeGranted net settings live ask.request path
      → PrintsRuns (length path.runs) path.runs

-- all live claims of these entries have ticks
abbrev pub HaveTicks : Timetable → List Entry → Type 0
HaveTicks timetable entries = All (λ claim. HasTicks claim.span) (live_in timetable entries)

-- a path that was found where a history had these entries, judged at a later one
pub record IsLater (timetable : Timetable) (owner : List ℕ) (ask : Ask) (path : Path)
    (searched found : List Entry) : Type 0 where
  pub later : StartsWith found searched
  pub ticks : HaveTicks timetable searched
  pub fitted : FitsAt timetable ask.request searched path

pub record AreJudged : Type 0 where
  -- it is missed where a claim is taken since, and then the number is new
  pub missed : (timetable : Timetable) (owner : List ℕ) (ask : Ask) (path : Path)
      (searched found : List Entry) (at : ℕ) → IsLater timetable owner ask path searched found
      → IsTakenSince timetable found (entry_for owner ask path) (length searched) at
      → IsMissed timetable ask.request searched found at
  pub is_new : (timetable : Timetable) (owner : List ℕ) (ask : Ask) (path : Path)
      (found : List Entry) → IsTaken (verdict_on timetable found (entry_for owner ask path))
      → IsNewNumber owner ask.number found
  -- it is refused by its number alone
  pub by_number : (timetable : Timetable) (owner : List ℕ) (ask : Ask) (path : Path)
      (searched found : List Entry) (told : Refusal)
      → IsLater timetable owner ask path searched found
      → IsTakenBefore timetable found (entry_for owner ask path) (length searched)
      → IsRefusal found (verdict_on timetable found (entry_for owner ask path)) told
      → verdict_on timetable found (entry_for owner ask path) ≢ Fresh → IsOfNumber told
  -- where it joins its number is new, and it fits
  pub fresh : (timetable : Timetable) (owner : List ℕ) (ask : Ask) (path : Path)
      (found : List Entry) → Joins timetable found (entry_for owner ask path)
      → IsNewNumber owner ask.number found
  pub fits : (timetable : Timetable) (owner : List ℕ) (ask : Ask) (path : Path)
      (searched found : List Entry) → IsLater timetable owner ask path searched found
      → HaveTicks timetable found → Joins timetable found (entry_for owner ask path)
      → FitsAt timetable ask.request found path
