-- The number by which a line asks is one.
use Rattle.std.proofs.Common.{◌≡◌, ◌∙◌, ap, sym, refl, ℕ, List, [], ◌∷◌, None, Option, Some, Ok}
use Rattle.std.proofs.Common.{Result}
use Rattle.served_clients.specs.lines.Cuts.{fields_of}
use Rattle.served_clients.specs.lines.Forms.{Spells}
use Rattle.served_clients.specs.lines.Lines.{a_line}
use Rattle.served_clients.specs.lines.Names.{Names}
use Rattle.served_clients.specs.lines.declared.asks.Line.{Line}
use Rattle.served_clients.proofs.lines_lemmas.FormLaws.{spelled_line}
use Rattle.served_clients.proofs.lines_lemmas.Meanings.{NameLaws}
use Rattle.batch_command.specs.Numbers.{AreNumbered, asked_number, IsNumbered}

same_value : (a b : Line) → ◌≡◌ {A = Result Line ℕ} (Ok a) (Ok b) → a ≡ b
same_value a b e = cc

none_some : (number : Option ℕ) (n : ℕ) → number ≡ None → number ≡ Some n → ⊥
none_some number n none some = cc

module _ (laws : NameLaws) (known : Names) where
  said_once : (line : List ℕ) (a b : Line) → Spells (a_line known) (fields_of line) a → Spells (a_line known) (fields_of line) b → a ≡ b
  said_once line a b one other =
      same_value a b (sym (spelled_line laws (a_line known) (fields_of line) a one) ∙ spelled_line laws (a_line known) (fields_of line) b other)

  number_is : (line : List ℕ) (n m : Option ℕ) → IsNumbered known line n → IsNumbered known line m → n ≡ m
  number_is line None None one other = refl
  number_is line None (Some m) one other = absurd (none_some (asked_number other.0.ask) m (one other.0 other.1) other.2)
  number_is line (Some n) None one other = absurd (none_some (asked_number one.0.ask) n (other one.0 one.1) one.2)
  number_is line (Some n) (Some m) one other =
      let same = said_once line one.0 other.0 one.1 other.1 in
      sym one.2 ∙ ap (λ (said : Line). asked_number said.ask) same ∙ other.2

  pub numbers_are : (lines : List (List ℕ)) (numbers others : List (Option ℕ)) → AreNumbered known lines numbers → AreNumbered known lines others → numbers ≡ others
  numbers_are [] [] [] one other = refl
  numbers_are [] [] (m ∷ others) one other = absurd other
  numbers_are [] (n ∷ numbers) others one other = absurd one
  numbers_are (line ∷ lines) [] others one other = absurd one
  numbers_are (line ∷ lines) (n ∷ numbers) [] one other = absurd other
  numbers_are (line ∷ lines) (n ∷ numbers) (m ∷ others) one other =
      let first = number_is line n m one.0 other.0 in let rest = numbers_are lines numbers others one.1 other.1 in cc
