-- Words with a number or a name behind them.
use Rattle.std.specs.Prelude.{ℕ, List, ◌++◌, decimal}
use Rattle.json_fields.specs.Escapes.{escaped}

abbrev pub numbered : List ℕ → ℕ → List ℕ
numbered word number = word ++ decimal number

abbrev pub named : List ℕ → List ℕ → List ℕ
named word name = word ++ escaped name
