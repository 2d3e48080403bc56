-- A client's seat at the gate, and what an answer there says.
use Rattle.std.specs.Prelude.{◌≡◌, ℕ, ◌≤◌, All, List, [], length}
use Rattle.admission_rules.specs.declared.rules.Rule.{Ghosts as Rules}
use Rattle.line_answers.specs.gate.declared.gates.Gate.{Gate}
use Rattle.line_answers.specs.gate.Passes.{opened, turns_left, view}
use Rattle.line_answers.specs.gate.Views.{own, rises}
use Rattle.admission_rules.specs.Ruled.{stand}
use Rattle.admission_rules.specs.Told.{told_at}
use Rattle.line_answers.specs.turns.Clients.{Knows}
use Rattle.line_answers.specs.turns.Turns.{IsReady, timetable_at}
use Rattle.line_answers.specs.Callers.{caller_of}
use Rattle.line_answers.specs.Calls.{AnswersBetween, IsToldIn}
use Rattle.line_answers.specs.Proved.{IsProvedBetween}
use Rattle.line_answers.specs.Rules.{told_by}
use Rattle.line_answers.specs.turns.Sharing.{IsShared}
use Rattle.line_answers.specs.turns.declared.shared.Shared.{Shared}
use Rattle.line_answers.specs.book.declared.stands.Footing.{Footing}
use Rattle.line_answers.specs.book.Ledgers.{Ledger}
use Rattle.rail_types.specs.Limits.{IsClientName}
use Rattle.rail_types.specs.declared.entries.Entry.{Entry}
use Rattle.client_lines.specs.declared.reply_texts.replies.Reply.{Reply}
use Rattle.served_clients.specs.declared.client_seats.gates.TheConstants.{TURNS_OF_A_CLIENT}
use Rattle.served_clients.specs.declared.client_seats.seats.Seat.{Seat}
use Rattle.served_clients.specs.ClientRuns.{callers_of}
use Rattle.served_clients.specs.Talks.{AreBelowEnd, AreProved, AreSettledWithin, Callers, faults}
use Rattle.served_clients.specs.Talks.{IsTalk, IsWithinSettled, printed, Talk, unsettled}

-- the client may take its turns at the gate
pub record IsSeated {D Btw L : Type 0} (seat : Seat D Btw L) : Type 0 where
  pub shared : IsShared seat.shared.now
  pub ready : IsReady seat.shared.now.gate seat.guest.pass
  pub knows : Knows (timetable_at seat.shared.now.gate) seat.guest.client
      (view seat.guest.pass).seen
  pub name : IsClientName seat.guest.client.name

-- a line of this number was told this reply by the rules as they stand, in turns that the pass has
-- taken since, this proof goes along with it where the client wants proofs, and the rules were told
-- of the own entry that the reply tells
pub record AnswersAt {D Btw L : Type 0} (kind : Rules L) (old : Seat D Btw L) (number : ℕ)
    (line : List ℕ) (told : Reply) (proof : List ℕ) (new : Seat D Btw L) : Type 0 where
  pub shared : new.shared ≡ old.shared
  pub name : new.guest.client.name ≡ old.guest.client.name
  pub proves : new.guest.proves ≡ old.guest.proves
  pub between : AnswersBetween
      (caller_of old.shared.now (stand kind old.rules.items) old.guest.client.name number) line told
      (view old.guest.pass) (view new.guest.pass)
  pub ruled : stand kind new.rules.items
      ≡ told_by (view new.guest.pass).seen told (stand kind old.rules.items)
  pub proved : IsProvedBetween old.shared.now.known (timetable_at old.shared.now.gate)
      old.guest.proves line told proof (view old.guest.pass) (view new.guest.pass)

-- ---- a seat that is taken, and one that is left

-- the entries of the book that the gate was given
abbrev pub found_at : {D : Type 0} → Gate (Ledger D) Entry Footing → List Entry
found_at gate = (opened gate).entries

-- the callers of the lines of a gate's clients, by their names
abbrev pub callers_at : {D : Type 0} → Shared D → List ℕ → Callers
callers_at shared = callers_of shared.known (timetable_at shared.gate)

-- nothing was answered yet: the client has the turns that its lines may take, none of them was
-- taken, and its pass has seen the entries that were found
pub record IsTaken {D Btw L : Type 0} (shared : Shared D) (seat : Seat D Btw L) : Type 0 where
  pub shared_is : seat.shared.now ≡ shared
  pub seated : IsSeated seat
  pub seen : (view seat.guest.pass).seen ≡ found_at shared.gate
  pub turns : (view seat.guest.pass).turns ≡ []
  pub share : (view seat.guest.pass).share ≡ TURNS_OF_A_CLIENT
  pub budget : turns_left seat.guest.pass ≡ TURNS_OF_A_CLIENT

-- the client's pass may be taken in again
pub record IsBack {D Btw L : Type 0} (shared : Shared D) (seat : Seat D Btw L) : Type 0 where
  pub ready : IsReady shared.gate seat.guest.pass
  pub share : (view seat.guest.pass).share ≡ TURNS_OF_A_CLIENT

-- what a client's pass keeps, once this passed at its seat
pub record IsDone {D Btw L : Type 0} (kind : Rules L) (shared : Shared D) (seat : Seat D Btw L)
    (talk : Talk) : Type 0 where
  pub back : IsBack shared seat
  pub proves : talk.proves ≡ seat.guest.proves
  pub told : stand kind seat.rules.items
      ≡ told_at (view seat.guest.pass).seen (printed talk.traffic.told) talk.rules
  pub replies : IsTalk (view seat.guest.pass).seen (callers_at shared talk.name)
      (length (found_at shared.gate)) talk.rules talk.traffic.told
  pub proved : AreProved (view seat.guest.pass).seen shared.known (timetable_at shared.gate)
      talk.proves (length (found_at shared.gate)) talk.traffic.told
  pub own_entries : own (view seat.guest.pass).turns ≡ printed talk.traffic.told
  pub counts : AreBelowEnd (view seat.guest.pass).turns
      → faults talk.traffic.told ≤ rises (view seat.guest.pass).turns
  pub told_so : All (IsToldIn (unsettled talk.traffic.told)) (view seat.guest.pass).turns
  pub settled : (most : ℕ) → AreSettledWithin (view seat.guest.pass).turns most
      → All (IsWithinSettled most) talk.traffic.told
