-- The turns that a client takes, and what they leave.
use Rattle.std.specs.Prelude.{◌≡◌, ◌≢◌, ◌⊎◌, ℕ, ◌+◌, ◌<◌, ◌≤◌, List, [], ◌∷◌, ◌++◌, length, Option}
use Rattle.std.specs.Prelude.{Some}
use Rattle.book_gate.specs.declared.gates.Gate.{Gate}
use Rattle.book_gate.specs.declared.gates.Pass.{Pass}
use Rattle.book_gate.specs.declared.views.View.{View}
use Rattle.book_gate.specs.Passes.{view, opened, IsOf, IsIdle, IsInTurn, OpensTurn}
use Rattle.book_gate.specs.Views.{StartsWith, turn}
use Rattle.path_commit.specs.history.declared.verdicts.Verdict.TheVariants.{Fresh}
use Rattle.path_commit.specs.history.Legal.{Joins}
use Rattle.path_commit.specs.history.Verdict.{verdict_on}
use Rattle.outside_io.specs.Faults.{Rose}
use Rattle.path_commit.specs.declared.stands.Footing.{Footing}
use Rattle.path_commit.specs.Answers.{bytes_with}
use Rattle.path_commit.specs.Footings.{footing_of}
use Rattle.path_commit.specs.Ledgers.{Ledger, settled_of}
use Rattle.rail_types.specs.declared.entries.Entry.{Entry}
use Rattle.rail_types.specs.Timetables.{Timetable}
use Rattle.ask_turns.specs.declared.client_turns.halts.Halt.{Halt}
use Rattle.ask_turns.specs.declared.client_turns.halts.Halt.TheVariants.{DiskFault, NoMemory, Ahead}
use Rattle.ask_turns.specs.declared.client_turns.told.Entered.{Entered}
use Rattle.ask_turns.specs.declared.client_turns.told.Entered.TheVariants.{Settled, Unsettled}
use Rattle.ask_turns.specs.declared.client_turns.told.Entered.TheVariants.{Refused, Full}
use Rattle.ask_turns.specs.declared.client_turns.told.Refusal.{Refusal}
use Rattle.ask_turns.specs.declared.client_turns.told.Tried.{Tried}
use Rattle.ask_turns.specs.declared.client_turns.told.Tried.TheVariants.{Entered as EntryTried}
use Rattle.ask_turns.specs.declared.client_turns.told.Tried.TheVariants.{Missed}
use Rattle.ask_turns.specs.Told.{IsRefusal, IsTakenBefore, IsTakenSince, MayEnter}

-- what a pass knows of a book
abbrev pub Sight : Type 0
Sight = View Entry Footing

-- the timetable of the book that the gate was given, which no turn changes
abbrev pub timetable_at : {D : Type 0} → Gate (Ledger D) Entry Footing → Timetable
timetable_at gate = (opened gate).timetable

-- the pass is one of the gate, and has no turn open
abbrev pub IsReady : {D : Type 0} → Gate (Ledger D) Entry Footing → Pass (Ledger D) Entry Footing
    → Type 0
IsReady gate pass = IsOf footing_of gate pass × IsIdle pass

-- The pass took one turn, which left so many entries settled. What it found goes on from all that
-- the pass had seen, and what it left from what it found; the count did not fall.
pub record TakesTurn (v w : Sight) (settled : ℕ) : Type 0 where
  pub turns : w.turns ≡ v.turns
      ++ turn w.ticket w.found (record { list = w.seen; settled = settled; count = w.count }) ∷ []
  pub share : w.share ≡ v.share
  pub goes_on : StartsWith w.found.list v.seen
  pub keeps : StartsWith w.seen w.found.list
  pub within : w.found.settled ≤ length w.found.list
  pub counts : w.found.count ≤ w.count

-- a turn that left all settled and added nothing
pub record Looks (v w : Sight) : Type 0 where
  pub takes : TakesTurn v w (length w.seen)
  pub same : w.seen ≡ w.found.list

-- a turn that could not settle what it found, and added nothing; the count rose
pub record CannotSettle (v w : Sight) : Type 0 where
  pub takes : TakesTurn v w w.found.settled
  pub same : w.seen ≡ w.found.list
  pub pending : w.found.settled < length w.found.list
  pub rose : Rose w.found.count w.count

-- the front that is named, if one is, is not beyond these entries
abbrev pub IsReached : Option ℕ → List Entry → Type 0
IsReached after entries = (front : ℕ) → after ≡ Some front → front ≤ length entries

-- a front that is named, and the lesser front of what a turn found
pub record IsAhead (after : Option ℕ) (entries : List Entry) (named front : ℕ) : Type 0 where
  pub asked : after ≡ Some named
  pub stands : front ≡ length entries
  pub beyond : front < named

-- a turn that ended before anything was done in it but settling
abbrev pub IsHalted : Halt → Option ℕ → Sight → Sight → Type 0
IsHalted DiskFault after v w = CannotSettle v w
IsHalted NoMemory after v w = Looks v w
IsHalted (Ahead named front) after v w = Looks v w × IsAhead after w.found.list named front

-- an entry that may enter stands behind what the turn found, at this position, before this front
pub record IsAdded (timetable : Timetable) (entry : Entry) (at front : ℕ) (w : Sight) : Type 0 where
  pub may : MayEnter timetable entry w.found.list
  pub left : w.seen ≡ w.found.list ++ entry ∷ []
  pub here : at ≡ length w.found.list
  pub behind : front ≡ at + 1

-- a turn that left all settled, in which an entry that may enter could not be begun; the count rose
pub record CannotBegin (timetable : Timetable) (entry : Entry) (v w : Sight) : Type 0 where
  pub takes : TakesTurn v w (length w.seen)
  pub same : w.seen ≡ w.found.list
  pub may : MayEnter timetable entry w.found.list
  pub rose : Rose w.found.count w.count

-- a turn in which the history did not take an entry
pub record IsRefusedIn (timetable : Timetable) (entry : Entry) (told : Refusal) (v w : Sight)
    : Type 0 where
  pub looks : Looks v w
  pub refusal : IsRefusal w.found.list (verdict_on timetable w.found.list entry) told
  pub stale : verdict_on timetable w.found.list entry ≢ Fresh

-- a turn in which an entry was fresh, and its record had no room
pub record IsFullIn (timetable : Timetable) (entry : Entry) (v w : Sight) : Type 0 where
  pub looks : Looks v w
  pub joins : Joins timetable w.found.list entry
  pub no_room : timetable.settings.journal_bytes < bytes_with w.found.list entry

-- a turn that judged an entry by what it found, and took it in where it is
-- fresh and its record has room
abbrev pub HasEntered : Timetable → Entry → Entered → Sight → Sight → Type 0
HasEntered timetable entry (Settled at front) v w =
    TakesTurn v w (length w.seen) × IsAdded timetable entry at front w
HasEntered timetable entry (Unsettled at front) v w =
    TakesTurn v w (length w.found.list) × IsAdded timetable entry at front w
    × Rose w.found.count w.count
HasEntered timetable entry (Refused told) v w = IsRefusedIn timetable entry told v w
HasEntered timetable entry Full v w = IsFullIn timetable entry v w

-- a turn in which entries from the searched position on clash with an entry, the
-- last of them at this position
pub record IsMissedIn (timetable : Timetable) (entry : Entry) (searched at : ℕ) (v w : Sight)
    : Type 0 where
  pub looks : Looks v w
  pub since : IsTakenSince timetable w.found.list entry searched at

-- a turn that judged an entry whose path was searched for where there were so many entries
abbrev pub HasTried : Timetable → Entry → ℕ → Tried → Sight → Sight → Type 0
HasTried timetable entry searched (EntryTried (Refused told)) v w =
    IsRefusedIn timetable entry told v w × IsTakenBefore timetable w.found.list entry searched
HasTried timetable entry searched (EntryTried entered) v w = HasEntered timetable entry entered v w
HasTried timetable entry searched (Missed at) v w = IsMissedIn timetable entry searched at v w

-- a turn that ended with nothing added to what it found
abbrev pub IsStopped : Timetable → Entry → Halt → Option ℕ → Sight → Sight → Type 0
IsStopped timetable entry DiskFault after v w =
    CannotSettle v w ⊎ (CannotBegin timetable entry v w × IsReached after w.found.list)
IsStopped timetable entry halt after v w = IsHalted halt after v w

-- *inside*: the turn is open, with nothing pending in the book
pub record IsOpen {D : Type 0} (faults : D → ℕ) (gate : Gate (Ledger D) Entry Footing)
    (old new : Pass (Ledger D) Entry Footing) (after : Option ℕ) (book : Ledger D)
    : Type 0 where
  pub own : IsOf footing_of gate new
  pub turn : IsInTurn new
  pub opens : OpensTurn old new
  pub goes_on : StartsWith (view new).found.list (view old).seen
  pub within : (view new).found.settled ≤ length (view new).found.list
  pub list : book.entries ≡ (view new).found.list
  pub counts : faults book.disk ≡ (view new).found.count
  pub settled : settled_of book ≡ length book.entries
  pub footing : footing_of book ≡ footing_of (opened gate)
  pub reached : IsReached after (view new).found.list
