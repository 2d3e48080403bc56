-- The numbers by which lines ask.
use Rattle.std.specs.Prelude.{◌≡◌, ℕ, Bool, List, [], ◌∷◌, ◌++◌, Option, None, Some, if◌then◌else◌}
use Rattle.std.specs.Prelude.{nat_eq}
use Rattle.std.specs.List.{list_any}
use Rattle.served_clients.specs.lines.Cuts.{fields_of}
use Rattle.served_clients.specs.lines.Forms.{Spells}
use Rattle.served_clients.specs.lines.Lines.{a_line}
use Rattle.served_clients.specs.lines.Names.{Names}
use Rattle.served_clients.specs.lines.declared.asks.Ask.{Ask}
use Rattle.served_clients.specs.lines.declared.asks.Ask.TheVariants as asks
use Rattle.served_clients.specs.lines.declared.asks.Line.{Line}

-- the number by which a path is asked for, None where something else is
abbrev pub asked_number : Ask → Option ℕ
asked_number (asks.Path number request) = Some number
asked_number other = None

-- the number by which a line asks for a path, None where it does not, or is not in the form
abbrev pub IsNumbered : Names → List ℕ → Option ℕ → Type 0
IsNumbered known line (Some number) =
    (said : Line) × Spells (a_line known) (fields_of line) said
    × (asked_number said.ask ≡ Some number)
IsNumbered known line None =
    (said : Line) → Spells (a_line known) (fields_of line) said → asked_number said.ask ≡ None

-- the numbers of lines, one for each, in their order
abbrev pub AreNumbered : Names → List (List ℕ) → List (Option ℕ) → Type 0
AreNumbered known [] [] = Unit {0}
AreNumbered known [] (number ∷ numbers) = ⊥
AreNumbered known (line ∷ lines) [] = ⊥
AreNumbered known (line ∷ lines) (number ∷ numbers) =
    IsNumbered known line number × AreNumbered known lines numbers

-- lines have one list of numbers
abbrev pub NumbersAreOne : Type 0
NumbersAreOne = (known : Names) (lines : List (List ℕ)) (numbers others : List (Option ℕ))
    → AreNumbered known lines numbers → AreNumbered known lines others → numbers ≡ others

-- whether the number is among these
abbrev pub has : List ℕ → ℕ → Bool
has numbers number = list_any (nat_eq number) numbers

-- the first number that is the one of an earlier line, where these are
-- the numbers of the lines before
abbrev pub first_repeat : List ℕ → List (Option ℕ) → Option ℕ
first_repeat before [] = None
first_repeat before (None ∷ numbers) = first_repeat before numbers
first_repeat before (Some number ∷ numbers) =
    if has before number then Some number else first_repeat (before ++ number ∷ []) numbers
