-- What a list asks for, and the flaws for which it is refused.
use Rattle.std.specs.Prelude.{◌≡◌, ◌⊎◌, ℕ, List, [], Option, None, Some}
use Rattle.batch_command.specs.Flaws.{needed_line, no_ask_line, twice_line}
use Rattle.served_clients.specs.lines.Names.{Names}
use Rattle.command_reports.specs.Refusals.{IsTold}
use Rattle.command_reports.specs.declared.refusals.Refusal.{Refusal}
use Rattle.command_reports.specs.declared.refusals.Refusal.TheVariants.{Memory}
use Rattle.command_reports.specs.declared.exit_status.Status.TheVariants.{No}
use Rattle.batch_command.specs.Asks.{first_no_ask}
use Rattle.batch_command.specs.Numbers.{AreNumbered, first_repeat}
use Rattle.rail_types.specs.declared.entries.Entry.{Entry}
use Rattle.batch_command.specs.Owners.{AreEnough, IsNeeded}

-- Each line of the list asks, and these are the numbers of the lines that are in the form: they
-- differ, and none stands in the history under the name of a worker that is not there.
pub record IsAsked (known : Names) (batch : List ℕ) (workers : ℕ) (entries : List Entry)
    (lines : List (List ℕ)) (numbers : List (Option ℕ)) : Type 0 where
  pub asks : first_no_ask 1 lines ≡ None
  pub numbered : AreNumbered known lines numbers
  pub differ : first_repeat [] numbers ≡ None
  pub enough : AreEnough entries batch workers numbers

-- ---- flaws, the first that applies

-- the line of this number is the first that does not ask
pub record HasNoAsk (lines : List (List ℕ)) (line : ℕ) : Type 0 where
  pub first : first_no_ask 1 lines ≡ Some line

-- all lines ask, and this is the first number that repeats
pub record HasTwice (known : Names) (lines : List (List ℕ)) (number : ℕ) : Type 0 where
  pub numbers : List (Option ℕ)
  pub asks : first_no_ask 1 lines ≡ None
  pub numbered : AreNumbered known lines numbers
  pub repeats : first_repeat [] numbers ≡ Some number

-- all lines ask, their numbers differ, and this is the last worker that is needed and not there
pub record HasNeed (known : Names) (batch : List ℕ) (workers : ℕ) (entries : List Entry)
    (lines : List (List ℕ)) (worker : ℕ) : Type 0 where
  pub numbers : List (Option ℕ)
  pub asks : first_no_ask 1 lines ≡ None
  pub numbered : AreNumbered known lines numbers
  pub differ : first_repeat [] numbers ≡ None
  pub needed : IsNeeded entries batch workers numbers worker

-- a flaw of the list, by the line that tells it
abbrev pub IsFlaw : Names → (batch : List ℕ) → (workers : ℕ) → List Entry → List (List ℕ)
    → List ℕ → Type 0
IsFlaw known batch workers entries lines told =
    ((line : ℕ) × HasNoAsk lines line × (told ≡ no_ask_line line))
    ⊎ (((number : ℕ) × HasTwice known lines number × (told ≡ twice_line number))
    ⊎ ((worker : ℕ) × HasNeed known batch workers entries lines worker
    × (told ≡ needed_line worker)))

-- the list has a flaw, which is told; or memory was wanted
abbrev pub HasFlaw : Names → (batch : List ℕ) → (workers : ℕ) → List Entry → List (List ℕ)
    → Refusal → Type 0
HasFlaw known batch workers entries lines refusal =
    ((told : List ℕ) × IsFlaw known batch workers entries lines told × IsTold No told refusal)
    ⊎ (refusal ≡ Memory)

-- a list comes to one flaw, or to none
pub record ListsAreJudgedOnce : Type 0 where
  pub one : (known : Names) (batch : List ℕ) (workers : ℕ) (entries : List Entry)
      (lines : List (List ℕ)) (told other : List ℕ)
      → IsFlaw known batch workers entries lines told
      → IsFlaw known batch workers entries lines other → told ≡ other
  pub either : (known : Names) (batch : List ℕ) (workers : ℕ) (entries : List Entry)
      (lines : List (List ℕ)) (numbers : List (Option ℕ)) (told : List ℕ)
      → IsAsked known batch workers entries lines numbers
      → IsFlaw known batch workers entries lines told → ⊥
