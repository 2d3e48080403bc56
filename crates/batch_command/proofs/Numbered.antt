-- Numbers of lines, one more.
use Rattle.std.proofs.Common.{ℕ, List, [], ◌∷◌, ◌++◌, Option}
use Rattle.served_clients.specs.lines.Names.{Names}
use Rattle.batch_command.specs.Numbers.{AreNumbered, IsNumbered}

pub numbered_more : (known : Names) (lines : List (List ℕ)) (numbers : List (Option ℕ)) (line : List ℕ) (number : Option ℕ)
    → AreNumbered known lines numbers → IsNumbered known line number → AreNumbered known (lines ++ line ∷ []) (numbers ++ number ∷ [])
numbered_more known [] [] line number all one = (one, tt)
numbered_more known [] (n ∷ numbers) line number all one = absurd all
numbered_more known (l ∷ lines) [] line number all one = absurd all
numbered_more known (l ∷ lines) (n ∷ numbers) line number all one = (all.0, numbered_more known lines numbers line number all.1 one)
