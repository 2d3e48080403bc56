-- Who calls.
use Rattle.std.specs.Prelude.{◌≡◌, ℕ, Bool, true, false, List, [], ◌∷◌, Some, None}
use Rattle.client_lines.specs.declared.asks.Line.{Line}
use Rattle.admission_rules.specs.Ruled.{Ruled}
use Rattle.client_lines.specs.declared.reply_texts.replies.Reply.{Reply}
use Rattle.admission_rules.specs.declared.rule_names.RuleName.{RuleName}
use Rattle.ask_turns.specs.Turns.{Sight, timetable_at}
use Rattle.line_answers.specs.Answers.{Caller}
use Rattle.line_answers.specs.Calls.{AnswersBetween}
use Rattle.line_answers.specs.Rules.{IsReadAs, denial}
use Rattle.ask_turns.specs.declared.shared.Shared.{Shared}

-- whether there are rules
abbrev pub are_some : List Ruled → Bool
are_some [] = false
are_some (rule ∷ rules) = true

-- a client of this name with these rules, whose line has this number
abbrev pub caller_of : {D : Type 0} → Shared D → List Ruled → List ℕ → ℕ → Caller
caller_of shared rules name line_number =
    record {
      known = shared.known;
      timetable = timetable_at shared.gate;
      name = name;
      line_number = line_number;
      denied = λ history line. denial rules line;
      ruled = are_some rules;
    }

-- *inside*: the reply to the bytes of a line, whatever bytes are read as it
abbrev pub AnswersLine : Caller → Line → Reply → Sight → Sight → Type 0
AnswersLine caller line told v w =
    (bytes : List ℕ) → IsReadAs caller.known bytes line → AnswersBetween caller bytes told v w

-- *inside*: the reply to a line of that client, whatever rules it has that do not deny the line
abbrev pub AnswersAllowed : {D : Type 0} → Shared D → List ℕ → ℕ → Line → Reply → Sight → Sight
    → Type 0
AnswersAllowed shared name line_number line told v w =
    (rules : List Ruled) → denial rules line ≡ None
    → AnswersLine (caller_of shared rules name line_number) line told v w

-- *inside*: the same where the first of its rules that denies the line is this one
abbrev pub AnswersDenied : {D : Type 0} → Shared D → List ℕ → ℕ → Line → RuleName → Reply → Sight
    → Sight
    → Type 0
AnswersDenied shared name line_number line rule told v w =
    (rules : List Ruled) → denial rules line ≡ Some rule
    → AnswersLine (caller_of shared rules name line_number) line told v w
