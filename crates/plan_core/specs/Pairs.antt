-- What an event does to a history and the number of its settled entries, whoever sees them.
use Rattle.std.specs.Prelude.{◌≡◌, ◌⊎◌, ℕ, ◌+◌, ◌-◌, ◌<◌, Bool, true, false, nat_lt, if◌then◌else◌}
use Rattle.std.specs.Prelude.{List, [], ◌∷◌, ◌++◌, length, take}
use Rattle.rail_types.specs.declared.entries.Entry.{Entry}
use Rattle.rail_types.specs.Timetables.{Timetable}
use Rattle.grant_journal.specs.declared.journals.Stage.TheVariants.{Record, Gate}
use Rattle.grant_log.specs.Legal.{Joins}
use Rattle.grant_log.specs.Verdict.{takes}
use Rattle.plan_core.specs.declared.events.Event.{Event}
use Rattle.plan_core.specs.declared.events.Event.TheVariants.{Turn, Seek, Commit, Free, Fault}
use Rattle.plan_core.specs.declared.events.Event.TheVariants.{Settle, Crash, Open}
use Rattle.plan_core.specs.Worlds.{Plan}

-- a history, and how many of its entries are settled
pub record Pair : Type 0 where
  pub entries : List Entry
  pub settled : ℕ

abbrev pub AreSettled : Pair → Type 0
AreSettled pair = pair.settled ≡ length pair.entries

-- all is settled, and the entry joins the history
pub record MayJoin (timetable : Timetable) (pair : Pair) (entry : Entry) : Type 0 where
  pub settled : AreSettled pair
  pub joins : Joins timetable pair.entries entry

-- with one entry more, which is settled
abbrev pub settled_with : Pair → Entry → Pair
settled_with pair entry =
    record { entries = pair.entries ++ entry ∷ []; settled = length pair.entries + 1 }

-- with one entry more, which is not settled
abbrev pub pending_with : Pair → Entry → Pair
pending_with pair entry = record { entries = pair.entries ++ entry ∷ []; settled = pair.settled }

abbrev pub all_settled : Pair → Pair
all_settled pair = record { entries = pair.entries; settled = length pair.entries }

-- without the last entry where it is not settled
abbrev pub without_unsettled : Pair → Pair
without_unsettled pair =
    if nat_lt pair.settled (length pair.entries)
    then record { entries = take (length pair.entries - 1) pair.entries; settled = pair.settled }
    else pair

-- an event takes the one pair to the other
abbrev pub IsEventOfPair : Timetable → Event → Pair → Pair → Type 0
IsEventOfPair timetable (Turn client) old new = AreSettled old × (new ≡ old)
IsEventOfPair timetable (Seek client) old new = new ≡ old
IsEventOfPair timetable (Commit client entry) old new =
    MayJoin timetable old entry × (takes entry.deed ≡ true) × (new ≡ settled_with old entry)
IsEventOfPair timetable (Free client entry) old new =
    MayJoin timetable old entry × (takes entry.deed ≡ false) × (new ≡ settled_with old entry)
IsEventOfPair timetable (Fault client entry Record) old new =
    MayJoin timetable old entry × (new ≡ old)
IsEventOfPair timetable (Fault client entry Gate) old new =
    MayJoin timetable old entry × (new ≡ pending_with old entry)
IsEventOfPair timetable (Settle true) old new =
    (old.settled < length old.entries) × (new ≡ all_settled old)
IsEventOfPair timetable (Settle false) old new =
    (old.settled < length old.entries) × (new ≡ old)
IsEventOfPair timetable (Crash true) old new = new ≡ old
IsEventOfPair timetable (Crash false) old new = new ≡ without_unsettled old
IsEventOfPair timetable Open old new = new ≡ all_settled old

-- the pair of a world
abbrev pub pair_of : Plan → Pair
pair_of world = record { entries = world.entries; settled = world.settled }

-- an event of a client by which it takes a turn
abbrev pub IsTurnOf : ℕ → Event → Type 0
IsTurnOf client (Turn other) = other ≡ client
IsTurnOf client (Commit other entry) = other ≡ client
IsTurnOf client (Free other entry) = other ≡ client
IsTurnOf client (Fault other entry stage) = other ≡ client
IsTurnOf client event = ⊥

-- an event of the client, by which it takes a turn, takes the one pair to the other
abbrev pub IsTurnBy : Timetable → ℕ → Pair → Pair → Type 0
IsTurnBy timetable client old new =
    (event : Event) × IsTurnOf client event × IsEventOfPair timetable event old new

-- a turn takes the one pair to the other by an event of its client, or by settling and then that
-- event, or by a settling that is not done, alone
abbrev pub TakesTurn : Timetable → ℕ → Pair → Pair → Type 0
TakesTurn timetable client old new =
    IsTurnBy timetable client old new
    ⊎ (((mid : Pair) × IsEventOfPair timetable (Settle true) old mid
    × IsTurnBy timetable client mid new)
    ⊎ IsEventOfPair timetable (Settle false) old new)
