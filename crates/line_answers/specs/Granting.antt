-- When a path that is sought must be granted.
use Rattle.std.specs.Prelude.{◌≡◌, ℕ, All, List}
use Rattle.ask_turns.specs.Searched.{IsPossibleAt}
use Rattle.book_gate.specs.declared.views.Turn.{Turn}
use Rattle.client_lines.specs.Cuts.{fields_of}
use Rattle.client_lines.specs.Forms.{Spells}
use Rattle.client_lines.specs.Lines.{a_line}
use Rattle.client_lines.specs.declared.asks.Ask.TheVariants as asks
use Rattle.client_lines.specs.declared.asks.Line.{Line}
use Rattle.ask_turns.specs.Turns.{Sight}
use Rattle.outside_io.specs.Faults.{Rose}
use Rattle.rail_types.specs.declared.entries.Entry.{Entry}
use Rattle.rail_types.specs.declared.trains.Request.{Request}
use Rattle.client_lines.specs.declared.reply_texts.replies.Reply.{Reply}
use Rattle.client_lines.specs.declared.reply_texts.replies.Reply.TheVariants as reply
use Rattle.line_answers.specs.Answers.{Caller, IsAllowed, IsFull, IsNarrow, IsNewNumber, IsReached}
use Rattle.line_answers.specs.Calls.{AnswersBetween}

-- Nothing hinders a path that a line seeks, in a call whose first turn found h and whose last
-- one found g: the front that the line names is reached, its number is new, no rule denies it,
-- its places are not too many, some path that keeps the request fits, and none that joins the
-- history lacks room in the journal; no entry came between the first turn and the last, and in
-- no turn the count of faults rose.
pub record IsUnhindered (caller : Caller) (line : Line) (turns : List Turn) (h g : List Entry)
    : Type 0 where
  pub number : ℕ
  pub request : Request
  pub asked : line.ask ≡ asks.Path number request
  pub reached : IsReached line h
  pub is_new : IsNewNumber caller number h
  pub allowed : IsAllowed caller line h
  pub narrow : IsNarrow caller request
  pub possible : IsPossibleAt caller.timetable request h
  pub room : ¬ IsFull caller line.ask h
  pub still : g ≡ h
  pub quiet : All (λ t. ¬ Rose t.found.count t.left.count) turns

-- the path is granted, or memory was wanted
abbrev pub IsGranted : Reply → Type 0
IsGranted (reply.Granted number at front runs) = Unit {0}
IsGranted reply.NoMemory = Unit {0}
IsGranted other = ⊥

-- The reply to the bytes of a line, of a call that took the pass from v to w: where they seek a
-- path that nothing hinders, it is granted, or memory was wanted.
abbrev pub GrantsIfUnhindered : Caller → List ℕ → Reply → Sight → Sight → Type 0
GrantsIfUnhindered caller bytes told v w =
    (answers : AnswersBetween caller bytes told v w) → (line : Line)
    → Spells (a_line caller.known) (fields_of bytes) line
    → IsUnhindered caller line answers.turns answers.h answers.g → IsGranted told
