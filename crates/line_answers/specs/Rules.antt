-- What the rules of a client say to a line, and what its reply tells them.
use Rattle.std.specs.Prelude.{◌≡◌, ℕ, Bool, true, false, List, [], ◌∷◌, Option, Some, None}
use Rattle.admission_rules.specs.declared.rules.Wish.{Wish}
use Rattle.client_lines.specs.Cuts.{fields_of}
use Rattle.client_lines.specs.Forms.{IsFirstWrong, Spells}
use Rattle.client_lines.specs.Lines.{a_line}
use Rattle.client_lines.specs.Names.{Names}
use Rattle.client_lines.specs.declared.asks.Ask.{Ask}
use Rattle.client_lines.specs.declared.asks.Ask.TheVariants as asks
use Rattle.client_lines.specs.declared.asks.Line.{Line}
use Rattle.admission_rules.specs.Ruled.{Ruled, denied_by, freed, granted}
use Rattle.admission_rules.specs.Told.{told_at}
use Rattle.admission_rules.specs.Wishes.{asked_wish, given_wish}
use Rattle.rail_types.specs.declared.entries.Deed.{Deed}
use Rattle.rail_types.specs.declared.entries.Entry.{Entry}
use Rattle.client_lines.specs.declared.reply_texts.replies.Reply.{Reply}
use Rattle.admission_rules.specs.declared.rule_names.RuleName.{RuleName}
use Rattle.line_answers.specs.Answers.{IsDeedOf, MayBeDenied, number_of}
use Rattle.line_answers.specs.Points.{added}

-- what is wished by a line: by a path that the client gives or seeks, and by nothing else
abbrev pub wished : Ask → Option Wish
wished (asks.Pin number path) = given_wish path
wished (asks.Path number request) = Some (asked_wish request)
wished (asks.Hold number claims reason) = None
wished (asks.Free number at) = None
wished (asks.Show at) = None
wished asks.Front = None

-- the first of the rules that says no to a line
abbrev pub denial : List Ruled → Line → Option RuleName
denial rules line = denied_by rules (wished line.ask)

-- rules, once they were told of the own entry that a reply tells, by the history that it left
abbrev pub told_by : List Entry → Reply → List Ruled → List Ruled
told_by left reply rules = told_at left (added reply) rules

-- ---- inside

-- these bytes are read as the line: they spell it and no other, and no field of them is wrong
pub record IsReadAs (known : Names) (bytes : List ℕ) (line : Line) : Type 0 where
  pub spells : Spells (a_line known) (fields_of bytes) line
  pub only : (said : Line) → Spells (a_line known) (fields_of bytes) said → said ≡ line
  pub right : (field : ℕ) → ¬ IsFirstWrong (a_line known) (fields_of bytes) field

-- the rules were told by the reply to a line, whatever bytes are read as it
abbrev pub TellsLine : Names → Line → List Entry → Reply → List Ruled → List Ruled → Type 0
TellsLine known line left reply old new =
    (bytes : List ℕ) → IsReadAs known bytes line → new ≡ told_by left reply old

-- the line does not free an entry
abbrev pub IsNoFree : Ask → Type 0
IsNoFree (asks.Free number at) = ⊥
IsNoFree other = Unit {0}

-- rules, once they were told of a grant where a reply tells an own entry at one of these positions
abbrev pub told_grant : List ℕ → Option Wish → List Ruled → List Ruled
told_grant [] wish rules = rules
told_grant (at ∷ positions) wish rules = granted wish rules

-- the same of a grant that was freed
abbrev pub told_free : List ℕ → Option Wish → List Ruled → List Ruled
told_free [] wish rules = rules
told_free (at ∷ positions) wish rules = freed wish rules

-- whether there are any
abbrev pub is_some_added : List ℕ → Bool
is_some_added [] = false
is_some_added (at ∷ positions) = true

-- the line is sent with this number and this deed, behind that front, and rules may deny it
pub record IsSentWith (line : Line) (after : Option ℕ) (number : ℕ) (deed : Deed) : Type 0 where
  pub behind : line.after ≡ after
  pub numbered : number_of line.ask ≡ Some number
  pub asked : IsDeedOf line.ask deed
  pub may : MayBeDenied line.ask
