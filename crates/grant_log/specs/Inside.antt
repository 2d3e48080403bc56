-- Inside: how a history finds its entries again, and what its private calls are told.
use Rattle.std.specs.Prelude.{◌≡◌, ℕ, ◌<◌, ◌++◌, List, length, drop, replicate, Option, Some, None}
use Rattle.std.specs.Prelude.{slice_get, slice_set, All}
use Rattle.rail_types.specs.declared.entries.Entry.{Entry}
use Rattle.rail_types.specs.declared.entries.Deed.{Deed}
use Rattle.rail_types.specs.declared.entries.Deed.TheVariants.{Hold, Grant, Free}
use Rattle.rail_types.specs.Timetables.{Timetable}
use Rattle.blocking_time.specs.Paths.{IsPathOf}
use Rattle.blocking_time.specs.Rules.{KeepsRunRules}
use Rattle.grant_log.specs.declared.keys.EntryKey.{EntryKey}
use Rattle.grant_log.specs.Live.{freed_by}

-- the key of a name and a number: the name's bytes with zeros behind them, how
-- many they are, and the number
abbrev pub key_for : List ℕ → ℕ → EntryKey
key_for owner number =
    record {
      owner = owner ++ drop (length owner) (replicate 32 0);
      owner_bytes = length owner;
      number = number;
    }

-- the key of an entry
abbrev pub key_of : Entry → EntryKey
key_of entry = key_for entry.owner entry.number

-- for each entry, which later one frees it
pub record TellFreed (freed : List (Option ℕ)) (entries : List Entry) : Type 0 where
  pub count : length freed ≡ length entries
  pub each : (at : ℕ) → at < length entries → slice_get freed at ≡ Some (freed_by entries at)

-- a deed whose claims can be worked out: the path of a grant keeps the rules of runs
abbrev pub HasStairway : Timetable → Deed → Type 0
HasStairway timetable (Hold claims reason) = Unit {0}
HasStairway timetable (Grant wanted path) =
    IsPathOf timetable.net timetable.settings path
    × KeepsRunRules timetable.net timetable.settings path
HasStairway timetable (Free at) = Unit {0}

-- the same of each entry
abbrev pub HaveStairways : Timetable → List Entry → Type 0
HaveStairways timetable entries = All (λ entry. HasStairway timetable entry.deed) entries

-- who frees the entry at this position, written down; nowhere where there is no position
abbrev pub marked : List (Option ℕ) → Option ℕ → Option ℕ → List (Option ℕ)
marked freed None freer = freed
marked freed (Some at) freer = slice_set freed at freer
