-- The turns of a call, and what they show of its reply.
use Rattle.std.specs.Prelude.{◌≡◌, ◌≢◌, ◌⊎◌, ℕ, ◌+◌, ◌≤◌, Bool, true, false, All, Contains, List}
use Rattle.std.specs.Prelude.{[], ◌∷◌, ◌++◌, length, take}
use Rattle.book_gate.specs.declared.views.Turn.{Turn}
use Rattle.book_gate.specs.Views.{StartsWith, own}
use Rattle.client_lines.specs.Cuts.{fields_of}
use Rattle.client_lines.specs.Forms.{Spells}
use Rattle.client_lines.specs.Lines.{a_line}
use Rattle.client_lines.specs.declared.asks.Ask.{Ask}
use Rattle.client_lines.specs.declared.asks.Ask.TheVariants as asks
use Rattle.client_lines.specs.declared.asks.Line.{Line}
use Rattle.outside_io.specs.Faults.{Rose}
use Rattle.plan_core.specs.declared.events.Event.{Event}
use Rattle.plan_core.specs.declared.events.Event.TheVariants as event
use Rattle.plan_core.specs.Pairs.{IsEventOfPair, Pair}
use Rattle.rail_types.specs.declared.entries.Entry.{Entry}
use Rattle.rail_types.specs.declared.trains.Request.{Request}
use Rattle.client_lines.specs.declared.reply_texts.replies.Reply.{Reply}
use Rattle.client_lines.specs.declared.reply_texts.replies.Reply.TheVariants as reply
use Rattle.ask_turns.specs.Turns.{Sight}
use Rattle.ask_turns.specs.Searched.{AreMissed}
use Rattle.line_answers.specs.Answers.{Caller, GivesLine, IsEntryOf, IsSought}
use Rattle.line_answers.specs.Points.{added, unsettled_by}

-- ---- events

-- an entry for which the bytes of a line ask: so it bears the client's name, the number of the
-- line, and the number and the deed that the line tells
pub record IsOf (caller : Caller) (bytes : List ℕ) (entry : Entry) : Type 0 where
  pub line : Line
  pub spelled : Spells (a_line caller.known) (fields_of bytes) line
  pub own : IsEntryOf caller line.ask entry

-- an event of the client of this number in a world: a turn without an entry, or one with an
-- entry for which the line asks
abbrev pub IsEventOf : Caller → List ℕ → ℕ → Event → Type 0
IsEventOf caller bytes client (event.Turn other) = other ≡ client
IsEventOf caller bytes client (event.Commit other entry) =
    (other ≡ client) × IsOf caller bytes entry
IsEventOf caller bytes client (event.Free other entry) =
    (other ≡ client) × IsOf caller bytes entry
IsEventOf caller bytes client (event.Fault other entry stage) =
    (other ≡ client) × IsOf caller bytes entry
IsEventOf caller bytes client other = ⊥

-- one event of the client takes the pair of history and settled count to the other
abbrev pub TakesEvent : Caller → List ℕ → ℕ → Pair → Pair → Type 0
TakesEvent caller bytes client old new =
    (one : Event) × IsEventOf caller bytes client one × IsEventOfPair caller.timetable one old new

-- one event of the client, or a settling and then that event, or a settling that is not done, alone
abbrev pub TakesEvents : Caller → List ℕ → ℕ → Pair → Pair → Type 0
TakesEvents caller bytes client old new =
    TakesEvent caller bytes client old new
    ⊎ (((mid : Pair) × IsEventOfPair caller.timetable (event.Settle true) old mid
    × TakesEvent caller bytes client mid new)
    ⊎ IsEventOfPair caller.timetable (event.Settle false) old new)

abbrev pub pair : List Entry → ℕ → Pair
pair entries settled = record { entries = entries; settled = settled }

-- the turn is such an event, by what its marks say of beginnings of a history,
-- whatever number the client has
pub record IsTurnOf (caller : Caller) (bytes : List ℕ) (history : List Entry) (t : Turn)
    : Type 0 where
  pub grows : t.found.entries ≤ t.left.entries
  pub within : t.left.entries ≤ length history
  pub event : (client : ℕ) → TakesEvents caller bytes client
      (pair (take t.found.entries history) t.found.settled)
      (pair (take t.left.entries history) t.left.settled)

-- ---- the turns of a call

-- the turn left each entry settled
abbrev pub IsSettled : Turn → Type 0
IsSettled t = t.left.settled ≡ t.left.entries

-- each turn but the last left each entry settled, and in the last one the count of faults rose
pub record EndInFault (turns : List Turn) : Type 0 where
  pub before : List Turn
  pub last : Turn
  pub turns_are : turns ≡ before ++ last ∷ []
  pub settled : All IsSettled before
  pub rose : Rose last.found.count last.left.count

-- the same, and what the last turn found is settled, and nothing behind it
pub record EndPending (turns : List Turn) : Type 0 where
  pub fault : EndInFault turns
  pub pending : fault.last.left.settled ≡ fault.last.found.entries

-- every turn first settles what is not settled; where that fails, or the own entry's writes do, the
-- reply tells it, and an entry that it calls unsettled is so
abbrev pub Settle : Reply → List Turn → Type 0
Settle reply.DiskFault turns = EndInFault turns
Settle (reply.Unsettled number at front) turns = EndPending turns
Settle other turns = All IsSettled turns

-- a line that cannot be read takes no turn; want of memory may come without
-- one; every other reply has one
abbrev pub HasTurns : Reply → List Turn → Type 0
HasTurns (reply.Bad field) turns = turns ≡ []
HasTurns reply.NoMemory turns = Unit {0}
HasTurns other turns = turns ≢ []

-- the first of these turns found so many entries
abbrev pub FirstFound : List Turn → ℕ → Type 0
FirstFound [] entries = Unit {0}
FirstFound (t ∷ ts) entries = t.found.entries ≡ entries

-- the last of these turns found so many entries
abbrev pub LastFound : List Turn → ℕ → Type 0
LastFound [] entries = Unit {0}
LastFound (t ∷ []) entries = t.found.entries ≡ entries
LastFound (t ∷ u ∷ us) entries = LastFound (u ∷ us) entries

-- the turn left all settled, or changed nothing, or added one entry that is not settled and
-- stands at one of these positions
abbrev pub IsToldIn : List ℕ → Turn → Type 0
IsToldIn unsettled t =
    (t.left.settled ≡ t.left.entries)
    ⊎ (((t.left.settled ≡ t.found.settled) × (t.left.entries ≡ t.found.entries))
    ⊎ ((t.left.settled ≡ t.found.entries) × (t.left.entries ≡ t.found.entries + 1)
    × Contains unsettled t.found.entries))

-- a line that is answered in one turn: all but a path that is sought, and a
-- Free of a client that has rules
abbrev pub TakesOneTurn : Bool → Ask → Type 0
TakesOneTurn ruled (asks.Hold number claims reason) = Unit {0}
TakesOneTurn ruled (asks.Pin number path) = Unit {0}
TakesOneTurn ruled (asks.Path number request) = ⊥
TakesOneTurn ruled (asks.Free number at) = ruled ≡ false
TakesOneTurn ruled (asks.Show at) = Unit {0}
TakesOneTurn ruled asks.Front = Unit {0}

-- no turn was taken but one, so what the last one found is what the first one did
pub record AreAtOnce (turns : List Turn) (h g : List Entry) : Type 0 where
  pub few : length turns ≤ 1
  pub same : g ≡ h

-- the turn found these entries, and added nothing to them
pub record IsLook (t : Turn) (entries : List Entry) : Type 0 where
  pub found : t.found.entries ≡ length entries
  pub left : t.left.entries ≡ length entries

-- the turns found these, one after another, and added nothing
abbrev pub AreLooks : List Turn → List (List Entry) → Type 0
AreLooks [] [] = Unit {0}
AreLooks [] (entries ∷ others) = ⊥
AreLooks (t ∷ turns) [] = ⊥
AreLooks (t ∷ turns) (entries ∷ others) = IsLook t entries × AreLooks turns others

-- Where the reply is that each of three searches was missed, the call took four turns:
-- each search stood at what the turn before it found and left, and what the turn behind it
-- found is where it was missed.
abbrev pub AreSearches : Caller → List ℕ → Reply → List Turn → List Entry → List Entry → Type 0
AreSearches caller bytes (reply.Again number at searched front) turns h g =
    (line : Line) × (request : Request) × Spells (a_line caller.known) (fields_of bytes) line
    × IsSought line.ask request
    × ((missed : AreMissed caller.timetable request h g searched at)
    × AreLooks turns (h ∷ missed.second ∷ missed.third ∷ g ∷ []))
AreSearches caller bytes other turns h g = Unit {0}

-- The reply to a line over the turns of the call: the first found h,
-- the last found g and left this.
pub record Answers (caller : Caller) (bytes : List ℕ) (told : Reply) (turns : List Turn)
    (h g left : List Entry) : Type 0 where
  pub gives : GivesLine caller bytes told h g left
  pub first : FirstFound turns (length h)
  pub last : LastFound turns (length g)
  pub later : StartsWith g h
  pub own_entries : own turns ≡ added told
  pub events : All (IsTurnOf caller bytes left) turns
  pub in_step : All (IsToldIn (unsettled_by told)) turns
  pub settle : Settle told turns
  pub turns_are : HasTurns told turns
  pub at_once : (line : Line) → Spells (a_line caller.known) (fields_of bytes) line
      → TakesOneTurn caller.ruled line.ask → AreAtOnce turns h g
  pub searches : AreSearches caller bytes told turns h g

-- The call took the pass from v to w, and that reply answers the line. Where it took
-- no turn, it saw nothing more.
pub record AnswersBetween (caller : Caller) (bytes : List ℕ) (told : Reply) (v w : Sight)
    : Type 0 where
  pub turns : List Turn
  pub h : List Entry
  pub g : List Entry
  pub taken : w.turns ≡ v.turns ++ turns
  pub share : w.share ≡ v.share
  pub goes_on : StartsWith h v.seen
  pub keeps : StartsWith w.seen g
  pub still : turns ≡ [] → w.seen ≡ v.seen
  pub answers : Answers caller bytes told turns h g w.seen
