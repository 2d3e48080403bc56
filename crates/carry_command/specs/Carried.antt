-- What is carried of a history into another timetable, and what is left out.
use Rattle.std.specs.Prelude.{◌≡◌, ◌⊎◌, ℕ, ◌<◌, ◌≤◌, true, List, length, take, drop, None, Some}
use Rattle.std.specs.Prelude.{slice_get, All, AllPairs, Any, Contains, [], ◌∷◌, Option, flat_map}
use Rattle.path_recover.specs.history.declared.verdicts.Verdict.{Verdict}
use Rattle.path_recover.specs.history.declared.verdicts.Verdict.TheVariants.{BreaksRequest, Taken}
use Rattle.path_recover.specs.history.Legal.{IsLegal}
use Rattle.path_recover.specs.history.Live.{freed_by}
use Rattle.path_recover.specs.history.Verdict.{takes, verdict_on}
use Rattle.rail_types.specs.declared.entries.Entry.{Entry}
use Rattle.rail_types.specs.declared.entries.Owner.TheVariants.{Base as of_train, Entry as of_entry}
use Rattle.rail_types.specs.Timetables.{Timetable}
use Rattle.carry_command.specs.declared.carried_history.reasons.LeftOut.{LeftOut}
use Rattle.carry_command.specs.declared.carried_history.reasons.Reason.{Reason}
use Rattle.carry_command.specs.declared.carried_history.reasons.Reason.TheVariants.{ByBase, ByEntry}
use Rattle.carry_command.specs.declared.carried_history.reasons.Reason.TheVariants.{Breaks}

-- this hold or grant stands at this position, and no later entry frees it
pub record IsLiveAt (entries : List Entry) (at : ℕ) (entry : Entry) : Type 0 where
  pub here : slice_get entries at ≡ Some entry
  pub takes_zones : takes entry.deed ≡ true
  pub unfreed : freed_by entries at ≡ None

-- what a verdict comes to as a reason to leave an entry out: a planned train has the zone, or an
-- entry that was carried, told by the position that it had, or the path breaks a rule. No other
-- verdict is one
abbrev pub IsReason : List ℕ → Verdict → Reason → Type 0
IsReason kept (BreaksRequest rule) reason = reason ≡ Breaks rule
IsReason kept (Taken claim (of_train train)) reason = reason ≡ ByBase claim.zone train
IsReason kept (Taken claim (of_entry place)) reason =
    (was : ℕ) × (slice_get kept place ≡ Some was) × (reason ≡ ByEntry claim.zone was)
IsReason kept verdict reason = ⊥

-- what stands there, in a list of its own
abbrev pub alone : Option Entry → List Entry
alone None = []
alone (Some entry) = entry ∷ []

-- the entries that stand at these positions
abbrev pub entries_at : List Entry → List ℕ → List Entry
entries_at old kept = flat_map (λ at. alone (slice_get old at)) kept

-- each of these entries is the live one that stood at its old position
pub record AreKept (old entries : List Entry) (kept : List ℕ) : Type 0 where
  pub count : length kept ≡ length entries
  pub each : (place : ℕ) (entry : Entry) → slice_get entries place ≡ Some entry →
      (at : ℕ) × (slice_get kept place ≡ Some at) × IsLiveAt old at entry

-- a live entry was left out for a reason that it has by the timetable and by those that were
-- carried before it: so many, which stood before it, while the others stood behind it
pub record IsLeftOut (timetable : Timetable) (old entries : List Entry) (kept : List ℕ)
    (one : LeftOut) : Type 0 where
  pub entry : Entry
  pub live : IsLiveAt old one.at entry
  pub count : ℕ
  pub within : count ≤ length kept
  pub before : All (λ at. at < one.at) (take count kept)
  pub behind : All (λ at. one.at < at) (drop count kept)
  pub reason : IsReason kept (verdict_on timetable (take count entries) entry) one.reason

-- The live holds and grants among the first so many entries of a history were carried into a
-- timetable, or left out: those carried stand in their old order, as they were, legal by the
-- timetable, and nothing else stands there.
pub record IsCarriedTo (timetable : Timetable) (old : List Entry) (front : ℕ)
    (entries : List Entry) (kept : List ℕ) (left : List LeftOut) : Type 0 where
  pub legal : IsLegal timetable entries
  pub are_kept : AreKept old entries kept
  pub order : AllPairs (λ at later. at < later) kept
  pub below : All (λ at. at < front) kept
  pub left_out : All (IsLeftOut timetable old entries kept) left
  pub left_order : AllPairs (λ one later. one.at < later.at) left
  pub left_below : All (λ one. one.at < front) left
  pub whole : (at : ℕ) (entry : Entry) → at < front → IsLiveAt old at entry →
      Contains kept at ⊎ Any (λ one. one.at ≡ at) left

-- all live holds and grants of a history
abbrev pub IsCarriedOf : Timetable → List Entry → List Entry → List ℕ → List LeftOut → Type 0
IsCarriedOf timetable old entries kept left =
    IsCarriedTo timetable old (length old) entries kept left
