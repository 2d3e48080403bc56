-- Room for replies.
use Rattle.std.proofs.Common.{◌⊎◌, ◌≤◌}
use mathlib.Core.Logic.{inl, inr, ⊎_elim}
use Rattle.byte_fields.specs.Buffered.{Buffered}
use Rattle.client_lines.specs.Rooms.{IsBehindEntry, room_for}
use Rattle.client_lines.specs.declared.reply_texts.replies.Reply.{Reply}
use Rattle.ask_turns.specs.declared.client_turns.halts.Halt.{Halt}
use Rattle.line_answers.specs.Asked.{HasRoomIn}
use Rattle.line_answers.specs.Tells.{AddsNothing, halt_reply}
use Rattle.line_answers.proofs.Rows.{halt_short}

-- a reply that prints no runs has room
pub short_room : (text : Buffered) (told : Reply) → room_for 0 ≤ text.spare
    → IsBehindEntry 0 told ⊎ AddsNothing told → HasRoomIn text told ⊎ AddsNothing told
short_room text told spare short = ⊎_elim (λ behind. inl (0, behind, spare)) (λ adds. inr adds) short

-- so does one behind a halt
pub halt_room : (text : Buffered) (told : Halt) → room_for 0 ≤ text.spare
    → HasRoomIn text (halt_reply told) ⊎ AddsNothing (halt_reply told)
halt_room text told spare = short_room text (halt_reply told) spare (halt_short told)
