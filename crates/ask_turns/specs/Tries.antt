-- The searches of an ask with their turns.
use Rattle.std.specs.Prelude.{◌≡◌, ◌⊎◌, ℕ, zero, suc, ◌<◌, List, length, None}
use Rattle.path_commit.specs.history.Legal.{Joins}
use Rattle.path_commit.specs.history.declared.verdicts.Verdict.TheVariants as verdict
use Rattle.rail_types.specs.declared.paths.Path.{Path}
use Rattle.rail_types.specs.declared.paths.Run.{Run}
use Rattle.rail_types.specs.Timetables.{Timetable}
use Rattle.ask_turns.specs.declared.client_turns.halts.Halt.{Halt}
use Rattle.ask_turns.specs.declared.client_turns.halts.Halt.TheVariants.{NoMemory}
use Rattle.ask_turns.specs.declared.client_turns.told.Entered.{Entered as Became}
use Rattle.ask_turns.specs.declared.client_turns.told.Entered.TheVariants as became
use Rattle.ask_turns.specs.declared.client_turns.told.Refusal.{Refusal}
use Rattle.ask_turns.specs.declared.client_turns.told.Refusal.TheVariants as refusal
use Rattle.ask_turns.specs.Turns.{HasEntered, IsStopped, Looks, Sight}
use Rattle.ask_turns.specs.declared.asks.Ask.{Ask}
use Rattle.ask_turns.specs.declared.asks.Outcome.{Outcome}
use Rattle.ask_turns.specs.declared.asks.Outcome.TheVariants.{Entered, NoPath, Again}
use Rattle.ask_turns.specs.Finds.{IsNewNumber, entry_for}
use Rattle.ask_turns.specs.Searched.{FitsAt, IsEarliestAt, IsMissed, IsPossibleAt}

-- A search that stood where the pass had seen u found a path that fitted there, and the turn from u
-- to w found it missed, the last time by the entry at this position; the number was still new.
pub record Misses (timetable : Timetable) (owner : List ℕ) (ask : Ask) (at : ℕ) (u w : Sight)
    : Type 0 where
  pub looks : Looks u w
  pub missed : IsMissed timetable ask.request u.seen w.found.list at
  pub is_new : IsNewNumber owner ask.number w.found.list

-- so many searches were missed one behind another, the last by the entry at
-- this position, from this front
abbrev pub HaveMissed : Timetable → List ℕ → Ask → ℕ → ℕ → ℕ → Sight → Sight → Type 0
HaveMissed timetable owner ask zero at front v w = w ≡ v
HaveMissed timetable owner ask (suc count) at front v w =
    (u : Sight) × (earlier : ℕ) × (before : ℕ)
    × HaveMissed timetable owner ask count earlier before v u
    × (front ≡ length u.seen) × Misses timetable owner ask at u w

-- a refusal by what the owner's number stands for
abbrev pub IsOfNumber : Refusal → Type 0
IsOfNumber (refusal.Kept at deed) = Unit {0}
IsOfNumber (refusal.Other (verdict.Gone at freer)) = Unit {0}
IsOfNumber (refusal.Other (verdict.Other at)) = Unit {0}
IsOfNumber (refusal.Other other) = ⊥

abbrev pub IsRefusedByNumber : Became → Type 0
IsRefusedByNumber (became.Refused told) = IsOfNumber told
IsRefusedByNumber other = Unit {0}

-- A path with these runs was found where the pass had seen u, the earliest there, and the turn from
-- u to w judged it. Where it joins what the turn found its number is new there, and it fits; it is
-- refused only where the number stands.
pub record IsJudged (timetable : Timetable) (owner : List ℕ) (ask : Ask) (told : Became)
    (runs : List Run) (u w : Sight) : Type 0 where
  pub path : Path
  pub runs_are : path.runs ≡ runs
  pub earliest : IsEarliestAt timetable ask.request u.seen path
  pub entered : HasEntered timetable (entry_for owner ask path) told u w
  pub is_new : Joins timetable w.found.list (entry_for owner ask path)
      → IsNewNumber owner ask.number w.found.list
  pub fits : Joins timetable w.found.list (entry_for owner ask path)
      → FitsAt timetable ask.request w.found.list path
  pub by_number : IsRefusedByNumber told

-- fewer than three searches were missed
pub record SoFar (timetable : Timetable) (owner : List ℕ) (ask : Ask) (v u : Sight) : Type 0 where
  pub count : ℕ
  pub few : count < 3
  pub at : ℕ
  pub front : ℕ
  pub missed : HaveMissed timetable owner ask count at front v u

-- what came of an ask
abbrev pub HasSearched : Timetable → List ℕ → Ask → Outcome → Sight → Sight → Type 0
HasSearched timetable owner ask (Entered told runs) v w =
    (u : Sight) × SoFar timetable owner ask v u × IsJudged timetable owner ask told runs u w
HasSearched timetable owner ask NoPath v w =
    SoFar timetable owner ask v w × (¬ IsPossibleAt timetable ask.request w.seen)
HasSearched timetable owner ask (Again at front) v w =
    HaveMissed timetable owner ask 3 at front v w

-- of how many entries the last turn tells: those that it found, or that it left with nothing added
abbrev pub IsTheFront : Outcome → ℕ → Sight → Type 0
IsTheFront (Entered told runs) front w = front ≡ length w.found.list
IsTheFront other front w = front ≡ length w.seen

-- a turn stopped, or memory was wanted before it
abbrev pub Stops : Timetable → List ℕ → Ask → Halt → Sight → Sight → Type 0
Stops timetable owner ask halt u w =
    ((halt ≡ NoMemory) × (w ≡ u))
    ⊎ ((path : Path) × IsStopped timetable (entry_for owner ask path) halt None u w)

abbrev pub HasStopped : Timetable → List ℕ → Ask → Halt → Sight → Sight → Type 0
HasStopped timetable owner ask halt v w =
    (u : Sight) × SoFar timetable owner ask v u × Stops timetable owner ask halt u w
