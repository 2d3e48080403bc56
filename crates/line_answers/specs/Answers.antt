-- What a line is answered.
use Rattle.std.specs.Prelude.{◌≡◌, ◌⊎◌, Bool, ℕ, ◌+◌, ◌<◌, ◌≤◌, List, [], ◌∷◌, ◌++◌, length, Option}
use Rattle.std.specs.Prelude.{Some, None, slice_get}
use Rattle.client_lines.specs.Cuts.{fields_of}
use Rattle.client_lines.specs.Forms.{IsFirstWrong, Spells}
use Rattle.client_lines.specs.Lines.{a_line}
use Rattle.client_lines.specs.Names.{Names}
use Rattle.client_lines.specs.declared.asks.Ask.{Ask}
use Rattle.client_lines.specs.declared.asks.Ask.TheVariants as asks
use Rattle.client_lines.specs.declared.asks.Line.{Line}
use Rattle.ask_turns.specs.history.declared.verdicts.Verdict.{Verdict}
use Rattle.ask_turns.specs.history.declared.verdicts.Verdict.TheVariants as verdict
use Rattle.ask_turns.specs.history.Legal.{Joins}
use Rattle.ask_turns.specs.history.Live.{freed_by}
use Rattle.ask_turns.specs.history.Meanings.{IsNew}
use Rattle.ask_turns.specs.history.Verdict.{verdict_on}
use Rattle.path_commit.specs.Answers.{bytes_with}
use Rattle.rail_types.specs.declared.entries.Deed.{Deed}
use Rattle.rail_types.specs.declared.entries.Deed.TheVariants.{Hold, Grant, Free}
use Rattle.rail_types.specs.declared.entries.Entry.{Entry}
use Rattle.rail_types.specs.declared.entries.Wanted.TheVariants.{Asked, Pinned}
use Rattle.rail_types.specs.declared.limits.TheConstants.{MAX_PLACES}
use Rattle.rail_types.specs.declared.paths.Claim.{Claim}
use Rattle.rail_types.specs.declared.paths.Path.{Path}
use Rattle.rail_types.specs.declared.trains.Request.{Request}
use Rattle.rail_types.specs.Timetables.{Timetable}
use Rattle.client_lines.specs.declared.reply_texts.replies.Reply.{Reply}
use Rattle.client_lines.specs.declared.reply_texts.replies.Reply.TheVariants as reply
use Rattle.admission_rules.specs.declared.rule_names.RuleName.{RuleName}
use Rattle.ask_turns.specs.tails.Listed.{HasMoreThan}
use Rattle.ask_turns.specs.Searched.{AreMissed, FitsAt, IsEarliestAt, IsPossibleAt}
use Rattle.book_gate.specs.Views.{StartsWith}

-- Who sends a line: what the line may name, the timetable by which it is judged, the client's name,
-- the number of the line in its session, the first of the client's rules that says no to the line
-- at a history, and whether it has rules.
pub record Caller : Type 0 where
  pub known : Names
  pub timetable : Timetable
  pub name : List ℕ
  pub line_number : ℕ
  pub denied : List Entry → Line → Option RuleName
  pub ruled : Bool

-- ---- the entry of a line

-- the client's number for what a line asks for
abbrev pub number_of : Ask → Option ℕ
number_of (asks.Hold number claims reason) = Some number
number_of (asks.Pin number path) = Some number
number_of (asks.Path number request) = Some number
number_of (asks.Free number at) = Some number
number_of (asks.Show at) = None
number_of asks.Front = None

-- the client's entry with this number and deed
abbrev pub entry_of : Caller → ℕ → Deed → Entry
entry_of caller number deed =
    record { owner = caller.name; number = number; line = caller.line_number; deed = deed }

-- the deeds that a line asks for: for a path that is sought the grant of any path
abbrev pub IsDeedOf : Ask → Deed → Type 0
IsDeedOf (asks.Hold number claims reason) deed = deed ≡ Hold claims reason
IsDeedOf (asks.Pin number path) deed = deed ≡ Grant Pinned path
IsDeedOf (asks.Path number request) deed = (path : Path) × (deed ≡ Grant (Asked request) path)
IsDeedOf (asks.Free number at) deed = deed ≡ Free at
IsDeedOf (asks.Show at) deed = ⊥
IsDeedOf asks.Front deed = ⊥

-- an entry for which a line asks
pub record IsEntryOf (caller : Caller) (ask : Ask) (entry : Entry) : Type 0 where
  pub number : ℕ
  pub deed : Deed
  pub numbered : number_of ask ≡ Some number
  pub asked : IsDeedOf ask deed
  pub entry_is : entry ≡ entry_of caller number deed

-- ---- what is true of a history

-- the history says this of an entry for which the line asks
abbrev pub IsTold : Caller → Ask → List Entry → Verdict → Type 0
IsTold caller ask entries told =
    (entry : Entry) × IsEntryOf caller ask entry
    × (verdict_on caller.timetable entries entry ≡ told)

-- the client's number does not stand in the history
abbrev pub IsNewNumber : Caller → ℕ → List Entry → Type 0
IsNewNumber caller number entries = IsNew entries (entry_of caller number (Free 0))

-- the front that the line names, if it names one, is not beyond the history
abbrev pub IsReached : Line → List Entry → Type 0
IsReached line entries = (after : ℕ) → line.after ≡ Some after → after ≤ length entries

-- the record of an entry goes beyond the bytes that the journal may have
abbrev pub HasNoRoom : Caller → List Entry → Entry → Type 0
HasNoRoom caller entries entry =
    caller.timetable.settings.journal_bytes < bytes_with entries entry

-- an entry for which the line asks, which joins the history and has room in the journal
pub record MayBegin (caller : Caller) (ask : Ask) (entries : List Entry) (entry : Entry)
    : Type 0 where
  pub own : IsEntryOf caller ask entry
  pub joins : Joins caller.timetable entries entry
  pub room : bytes_with entries entry ≤ caller.timetable.settings.journal_bytes

-- ---- what a turn left

-- nothing was added to g, and this is its front
pub record Leaves (g left : List Entry) (front : ℕ) : Type 0 where
  pub same : left ≡ g
  pub front_is : front ≡ length g

-- an entry for which the line asks stands behind g, at that position, before that front
pub record Adds (caller : Caller) (ask : Ask) (g left : List Entry) (entry : Entry)
    (number at front : ℕ) : Type 0 where
  pub begins : MayBegin caller ask g entry
  pub left_is : left ≡ g ++ entry ∷ []
  pub numbered : number_of ask ≡ Some number
  pub stands : at ≡ length g
  pub front_is : front ≡ at + 1

-- the line asks for this
abbrev pub IsHold : Ask → Type 0
IsHold (asks.Hold number claims reason) = Unit {0}
IsHold other = ⊥

abbrev pub IsPin : Ask → Type 0
IsPin (asks.Pin number path) = Unit {0}
IsPin other = ⊥

abbrev pub IsSought : Ask → Request → Type 0
IsSought (asks.Path number sought) request = sought ≡ request
IsSought other request = ⊥

-- a line that rules may deny: a path that the client gives or seeks
abbrev pub MayBeDenied : Ask → Type 0
MayBeDenied (asks.Pin number path) = Unit {0}
MayBeDenied (asks.Path number request) = Unit {0}
MayBeDenied other = ⊥

-- the line is one that no rule denies, or none denies it at h
abbrev pub IsAllowed : Caller → Line → List Entry → Type 0
IsAllowed caller line h = MayBeDenied line.ask → caller.denied h line ≡ None

-- the places of the request are not too many
abbrev pub IsNarrow : Caller → Request → Type 0
IsNarrow caller request = ¬ HasMoreThan MAX_PLACES caller.timetable.net request

-- the same of the request of a line, where it has one
abbrev pub IsNarrowLine : Caller → Line → Type 0
IsNarrowLine caller line =
    (request : Request) → IsSought line.ask request → IsNarrow caller request

-- ---- the rows

-- A search was made for the line: its front is reached, its number is new, no rule denies it, and
-- its places are not too many.
pub record IsSearched (caller : Caller) (line : Line) (number : ℕ) (request : Request)
    (h g : List Entry) : Type 0 where
  pub reached : IsReached line h
  pub sought : IsSought line.ask request
  pub numbered : number_of line.ask ≡ Some number
  pub is_new : IsNewNumber caller number g
  pub allowed : IsAllowed caller line h
  pub narrow : IsNarrow caller request

-- The path is one that a search found: it could be granted at some entries, a beginning of g that
-- has all of h, and no path that could be there leaves last earlier.
pub record IsEarliestBetween (timetable : Timetable) (request : Request) (path : Path)
    (h g : List Entry) : Type 0 where
  pub searched : List Entry
  pub since : StartsWith searched h
  pub within : StartsWith g searched
  pub earliest : IsEarliestAt timetable request searched path

-- an entry for which the line asks joins the history, and its record has no room; for a path that
-- is sought the entry of one that keeps the request and fits
abbrev pub IsFull : Caller → Ask → List Entry → Type 0
IsFull caller ask g =
    (entry : Entry) × IsEntryOf caller ask entry × Joins caller.timetable g entry
    × HasNoRoom caller g entry

-- A line is answered so by the history: h is the one that the first turn of the call
-- found, g the one that the last turn found, and left what that turn left. The front that
-- a reply tells is that of left.
abbrev pub Gives : Caller → Line → Reply → List Entry → List Entry → List Entry → Type 0
Gives caller line (reply.Held number at front) h g left =
    IsHold line.ask × IsReached line h
    × ((entry : Entry) × Adds caller line.ask g left entry number at front)
Gives caller line (reply.Pinned number at front) h g left =
    IsPin line.ask × IsReached line h × IsAllowed caller line h
    × ((entry : Entry) × Adds caller line.ask g left entry number at front)
Gives caller line (reply.Granted number at front runs) h g left =
    (request : Request) × (path : Path) × IsSearched caller line number request h g
    × (path.runs ≡ runs) × FitsAt caller.timetable request g path
    × Adds caller line.ask g left (entry_of caller number (Grant (Asked request) path))
    number at front
    × IsEarliestBetween caller.timetable request path h g
Gives caller line (reply.Freed number at freed front) h g left =
    (line.ask ≡ asks.Free number freed) × IsReached line h
    × ((entry : Entry) × Adds caller line.ask g left entry number at front)
Gives caller line (reply.Kept number at front deed) h g left =
    IsReached line h × (number_of line.ask ≡ Some number)
    × IsTold caller line.ask g (verdict.Kept at)
    × ((entry : Entry) × (slice_get g at ≡ Some entry) × (entry.deed ≡ deed))
    × Leaves g left front
Gives caller line (reply.Shown at front entry freer) h g left =
    (line.ask ≡ asks.Show at) × IsReached line h × (slice_get g at ≡ Some entry)
    × (freer ≡ freed_by g at) × Leaves g left front
Gives caller line (reply.Front front) h g left =
    (line.ask ≡ asks.Front) × IsReached line h × Leaves g left front
Gives caller line (reply.Bad field) h g left = ⊥
Gives caller line (reply.Denied number rule front) h g left =
    IsReached line h × MayBeDenied line.ask × (number_of line.ask ≡ Some number)
    × IsNewNumber caller number h × (caller.denied h line ≡ Some rule) × Leaves g left front
Gives caller line (reply.Ahead after front) h g left =
    (line.after ≡ Some after) × (length h < after) × (length g < after) × Leaves g left front
Gives caller line (reply.Other number at front) h g left =
    IsReached line h × (number_of line.ask ≡ Some number)
    × IsTold caller line.ask g (verdict.Other at) × Leaves g left front
Gives caller line (reply.Gone number at freer front) h g left =
    IsReached line h × (number_of line.ask ≡ Some number)
    × IsTold caller line.ask g (verdict.Gone at freer) × Leaves g left front
Gives caller line (reply.Taken number zone owner front) h g left =
    (IsHold line.ask ⊎ IsPin line.ask) × IsReached line h × IsAllowed caller line h
    × (number_of line.ask ≡ Some number)
    × ((claim : Claim) × (claim.zone ≡ zone) × IsTold caller line.ask g (verdict.Taken claim owner))
    × Leaves g left front
Gives caller line (reply.Breaks number run rule front) h g left =
    IsPin line.ask × IsReached line h × IsAllowed caller line h
    × (number_of line.ask ≡ Some number)
    × IsTold caller line.ask g (verdict.BreaksRequest (record { run = run; rule = rule }))
    × Leaves g left front
Gives caller line (reply.NoPath number front) h g left =
    (request : Request) × IsSearched caller line number request h g
    × (¬ IsPossibleAt caller.timetable request g) × Leaves g left front
Gives caller line (reply.Again number at searched front) h g left =
    (request : Request) × IsSearched caller line number request h g
    × AreMissed caller.timetable request h g searched at × Leaves g left front
Gives caller line (reply.Unknown at front) h g left =
    IsReached line h × Leaves g left front
    × (((number : ℕ) × (line.ask ≡ asks.Free number at)
    × IsTold caller line.ask g verdict.Unknown)
    ⊎ ((line.ask ≡ asks.Show at) × (length g ≤ at)))
Gives caller line (reply.NotYours number at owner front) h g left =
    (line.ask ≡ asks.Free number at) × IsReached line h
    × IsTold caller line.ask g (verdict.NotYours owner) × Leaves g left front
Gives caller line (reply.AlreadyFreed number at freer front) h g left =
    (line.ask ≡ asks.Free number at) × IsReached line h
    × IsTold caller line.ask g (verdict.AlreadyFreed freer) × Leaves g left front
Gives caller line (reply.Wide number front) h g left =
    (request : Request) × IsSought line.ask request × IsReached line h
    × (number_of line.ask ≡ Some number) × IsNewNumber caller number h
    × IsAllowed caller line h × HasMoreThan MAX_PLACES caller.timetable.net request
    × Leaves g left front
Gives caller line (reply.Full number front) h g left =
    IsReached line h × IsAllowed caller line h × IsNarrowLine caller line
    × (number_of line.ask ≡ Some number) × IsFull caller line.ask g × Leaves g left front
Gives caller line (reply.Unsettled number at front) h g left =
    IsReached line h × IsAllowed caller line h × IsNarrowLine caller line
    × ((entry : Entry) × Adds caller line.ask g left entry number at front)
Gives caller line reply.DiskFault h g left = left ≡ g
Gives caller line reply.NoMemory h g left = left ≡ g

-- the bytes of a line spell what is asked, and it is answered so; or its first wrong field is told,
-- or memory was wanted before it was read
abbrev pub GivesLine : Caller → List ℕ → Reply → List Entry → List Entry → List Entry → Type 0
GivesLine caller bytes (reply.Bad field) h g left =
    IsFirstWrong (a_line caller.known) (fields_of bytes) field × (left ≡ g)
GivesLine caller bytes reply.NoMemory h g left = left ≡ g
GivesLine caller bytes told h g left =
    (line : Line) × Spells (a_line caller.known) (fields_of bytes) line
    × Gives caller line told h g left
