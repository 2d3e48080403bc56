-- Lines that ask for a path.
use Rattle.std.specs.Prelude.{ℕ, ◌+◌, Bool, List, [], ◌∷◌, Option, None, Some, bytes_eq, codes}
use Rattle.std.specs.Prelude.{get_or, if◌then◌else◌}
use Rattle.served_clients.specs.lines.Cuts.{fields_of}

-- the first field of a line
abbrev pub first_field : List ℕ → List ℕ
first_field line = get_or (fields_of line) 0 []

-- whether it is `ask`
abbrev pub is_ask : List ℕ → Bool
is_ask line = bytes_eq (first_field line) (codes "ask")

-- the number of the first line whose first field is not `ask`, where the first
-- of these lines has this number
abbrev pub first_no_ask : ℕ → List (List ℕ) → Option ℕ
first_no_ask number [] = None
first_no_ask number (line ∷ lines) =
    if is_ask line then first_no_ask (number + 1) lines else Some number
