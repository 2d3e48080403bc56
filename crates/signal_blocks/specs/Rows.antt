-- Objects by the numbers of their rows.
use Rattle.std.specs.Prelude.{◌≡◌, ℕ, Bool, nat_eq, List, [], slice_index_or}
use Rattle.std.specs.List.{filter}

-- whether an object is in the row of that number
abbrev pub is_in : {X : Type 0} → (X → ℕ) → ℕ → X → Bool
is_in row_number row item = nat_eq (row_number item) row

-- the objects of the row of that number
abbrev pub row_of : {X : Type 0} → List (List X) → ℕ → List X
row_of rows row = slice_index_or rows row []

-- *Inside*: each row has its objects, in their order.
pub record AreRows {X : Type 0} (row_number : X → ℕ) (items : List X)
    (rows : List (List X)) : Type 0 where
  pub each : (row : ℕ) → row_of rows row ≡ filter (is_in row_number row) items
