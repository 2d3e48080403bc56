-- What one client was told, over a history.
use Rattle.std.specs.Prelude.{◌≡◌, ℕ, ◌+◌, ◌-◌, ◌^◌, ◌≤◌, ◌<◌, Bool, true, false, All, AllPairs}
use Rattle.std.specs.Prelude.{List, ◌++◌, [], ◌∷◌, flat_map, length, sum_by, Option, Some, None}
use Rattle.line_answers.specs.gate.declared.views.Turn.{Turn}
use Rattle.line_answers.specs.gate.Views.{StartsWith, own, rises}
use Rattle.client_lines.specs.Names.{Names}
use Rattle.admission_rules.specs.Ruled.{Ruled}
use Rattle.line_answers.specs.turns.Turns.{Sight}
use Rattle.line_answers.specs.Answers.{Caller, GivesLine}
use Rattle.line_answers.specs.Calls.{IsToldIn}
use Rattle.line_answers.specs.Points.{point, added, fault, unsettled_by}
use Rattle.line_answers.specs.Proved.{IsProved}
use Rattle.line_answers.specs.Rules.{told_by}
use Rattle.line_sessions.specs.Ends.{Traffic}
use Rattle.line_sessions.specs.Told.{Told}
use Rattle.rail_types.specs.declared.entries.Entry.{Entry}
use Rattle.rail_types.specs.Timetables.{Timetable}
use Rattle.client_lines.specs.declared.reply_texts.replies.Reply.{Reply}
use Rattle.client_lines.specs.declared.reply_texts.replies.Reply.TheVariants as reply

-- a client's name, its rules as they stood before its first line, whether the proofs that go along
-- with its replies are wanted, and what passed in its session
pub record Talk : Type 0 where
  pub name : List ℕ
  pub rules : List Ruled
  pub proves : Bool
  pub traffic : Traffic

-- the callers of a client's lines, by their numbers and by the rules as they stand then
abbrev pub Callers : Type 0
Callers = ℕ → List Ruled → Caller

-- the least front at which the next reply may be, behind one that prints this:
-- the last front that was printed
abbrev pub next_least : ℕ → Option ℕ → ℕ
next_least least None = least
next_least least (Some front) = front

-- the reply is what the history gives to the line, between a beginning of it that the first turn of
-- the call found, with no fewer entries than this, and one that the call left
pub record IsAnswer (history : List Entry) (caller : Caller) (least : ℕ) (one : Told)
    : Type 0 where
  pub h : List Entry
  pub g : List Entry
  pub left : List Entry
  pub gives : GivesLine caller one.line one.reply h g left
  pub later : StartsWith g h
  pub within : StartsWith history left
  pub fresh : least ≤ length h

-- each reply is what the history gives to its line, the first of which has this number, and
-- this is the least front for it; the rules stand as these before it, and each reply tells them
-- of the own entry that it tells
abbrev pub AreGiven : List Entry → Callers → ℕ → ℕ → List Ruled → List Told → Type 0
AreGiven history callers number least rules [] = Unit {0}
AreGiven history callers number least rules (one ∷ told) =
    IsAnswer history (callers number rules) least one
    × AreGiven history callers (number + 1) (next_least least (point one.reply))
    (told_by history one.reply rules) told

-- where both print fronts, the later one is not less
abbrev pub IsNoOlder : Told → Told → Type 0
IsNoOlder a b = (k l : ℕ) → point a.reply ≡ Some k → point b.reply ≡ Some l → k ≤ l

-- the positions that the replies print as those of their entries
abbrev pub printed : List Told → List ℕ
printed told = flat_map (λ one. added one.reply) told

-- how many replies tell a fault of the disk
abbrev pub faults : List Told → ℕ
faults told = sum_by (λ one. fault one.reply) told

-- the positions of the entries that the replies told as unsettled
abbrev pub unsettled : List Told → List ℕ
unsettled told = flat_map (λ one. unsettled_by one.reply) told

-- the front before which a reply says that all is settled: the one that it prints, or the position
-- of its own entry where it tells that as unsettled
abbrev pub settled_point : Reply → Option ℕ
settled_point (reply.Unsettled number at front) = Some at
settled_point other = point other

-- what the reply says is settled is within so many entries
abbrev pub IsWithinSettled : ℕ → Told → Type 0
IsWithinSettled settled one = (front : ℕ) → settled_point one.reply ≡ Some front → front ≤ settled

-- each line, the first of which is 1, has the reply that the history gives, by no fewer entries
-- than this or than the client was printed before, at fronts that do not fall; the rules stand
-- as these before the first line
pub record IsTalk (history : List Entry) (callers : Callers) (least : ℕ) (rules : List Ruled)
    (told : List Told) : Type 0 where
  pub given : AreGiven history callers 1 least rules told
  pub points : AllPairs IsNoOlder told

-- the proof that goes along with the reply is what the history gives, by no fewer entries than
-- this, where proofs are wanted, and else there is none
abbrev pub IsProvedIn : List Entry → Names → Timetable → Bool → ℕ → Told → Type 0
IsProvedIn history known timetable false least one = one.proof ≡ []
IsProvedIn history known timetable true least one =
    IsProved known timetable one.line one.reply one.proof least history

-- the same of each reply, by no fewer entries than this or than the client was printed before
abbrev pub AreProved : List Entry → Names → Timetable → Bool → ℕ → List Told → Type 0
AreProved history known timetable proves least [] = Unit {0}
AreProved history known timetable proves least (one ∷ told) =
    IsProvedIn history known timetable proves least one
    × AreProved history known timetable proves (next_least least (point one.reply)) told

-- ---- inside

-- every turn left a count of faults that does not stand at its end
abbrev pub AreBelowEnd : List Turn → Type 0
AreBelowEnd turns = All (λ t. t.left.count < 2 ^ 64 - 1) turns

-- no turn of these left more entries settled than that
abbrev pub AreSettledWithin : List Turn → ℕ → Type 0
AreSettledWithin turns settled = All (λ t. t.left.settled ≤ settled) turns

-- the pass, from v to w, added the entries of these replies, met their faults, and
-- settled what they say is settled
pub record Serves (v w : Sight) (told : List Told) : Type 0 where
  pub share : w.share ≡ v.share
  pub goes_on : StartsWith w.seen v.seen
  pub own_entries : own w.turns ≡ own v.turns ++ printed told
  pub counts : AreBelowEnd w.turns → rises v.turns + faults told ≤ rises w.turns
  pub told_so : v.turns ≡ [] → All (IsToldIn (unsettled told)) w.turns
  pub settled : (most : ℕ) → AreSettledWithin w.turns most → All (IsWithinSettled most) told
