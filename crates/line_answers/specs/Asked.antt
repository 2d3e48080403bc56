-- What an ask is told. *inside*
use Rattle.std.specs.Prelude.{◌≡◌, ℕ, ◌≤◌, List, Option}
use Rattle.byte_fields.specs.Buffered.{Buffered}
use Rattle.client_lines.specs.declared.asks.Ask.TheVariants as asks
use Rattle.client_lines.specs.declared.asks.Line.{Line}
use Rattle.rail_types.specs.declared.paths.Run.{Run}
use Rattle.rail_types.specs.declared.trains.Request.{Request}
use Rattle.client_lines.specs.declared.reply_texts.replies.Reply.{Reply}
use Rattle.client_lines.specs.declared.reply_texts.replies.Reply.TheVariants as reply
use Rattle.client_lines.specs.Rooms.{IsBehindEntry, room_for}
use Rattle.ask_turns.specs.declared.client_turns.told.Entered.{Entered as Became}
use Rattle.ask_turns.specs.declared.client_turns.told.Entered.TheVariants.{Settled, Unsettled}
use Rattle.ask_turns.specs.declared.client_turns.told.Entered.TheVariants.{Refused, Full}
use Rattle.ask_turns.specs.Turns.{IsReached, Looks, Sight}
use Rattle.ask_turns.specs.declared.asks.Outcome.{Outcome}
use Rattle.ask_turns.specs.declared.asks.Outcome.TheVariants.{Entered, NoPath, Again}
use Rattle.ask_turns.specs.Finds.{IsNewNumber}
use Rattle.ask_turns.specs.Tries.{IsRefusedByNumber}
use Rattle.line_answers.specs.Callers.{AnswersAllowed}
use Rattle.ask_turns.specs.declared.shared.Shared.{Shared}
use Rattle.line_answers.specs.Tells.{TellsAgain}

-- the text has room for the reply to a line whose entry was begun
abbrev pub HasRoomIn : Buffered → Reply → Type 0
HasRoomIn text told = (runs : ℕ) × IsBehindEntry runs told × (room_for runs ≤ text.spare)

-- the line seeks a path for the request, by this number, behind that front
abbrev pub asking : Option ℕ → ℕ → Request → Line
asking after number request = record { after = after; ask = asks.Path number request }

-- The reply of a call whose turns so far took the pass from v to u: one turn, in which
-- the client's number was new.
abbrev pub AnswersBehind : {D : Type 0} → Shared D → List ℕ → ℕ → ℕ → Request → Reply → Sight
    → Sight
    → Type 0
AnswersBehind shared name line_number number request told u w =
    (v : Sight) (after : Option ℕ) → Looks v u → IsReached after u.found.list
    → IsNewNumber name number u.found.list
    → AnswersAllowed shared name line_number (asking after number request) told v w

-- an outcome that refuses by the number alone
abbrev pub IsOutcomeTold : Outcome → Type 0
IsOutcomeTold (Entered told runs) = IsRefusedByNumber told
IsOutcomeTold other = Unit {0}

-- the reply to an ask whose path was found, with these runs
abbrev pub TellsPath : ℕ → ℕ → Became → List Run → Reply → Type 0
TellsPath number front (Settled at behind) runs told =
    told ≡ reply.Granted number at behind runs
TellsPath number front (Unsettled at behind) runs told = told ≡ reply.Unsettled number at behind
TellsPath number front (Refused refusal) runs told = TellsAgain number front refusal told
TellsPath number front Full runs told = told ≡ reply.Full number front

-- the reply to an ask
abbrev pub TellsAsk : ℕ → ℕ → Outcome → Reply → Type 0
TellsAsk number front (Entered entered runs) told = TellsPath number front entered runs told
TellsAsk number front NoPath told = told ≡ reply.NoPath number front
TellsAsk number front (Again at searched) told = told ≡ reply.Again number at searched front
