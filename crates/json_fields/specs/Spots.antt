-- Places in a file, as a fault tells them.
use Rattle.std.specs.Prelude.{ℕ, List, [], ◌∷◌, ◌++◌, codes, decimal, Option, Some, None}
use Rattle.json_fields.specs.declared.spots.Spot.{Spot}

abbrev pub index_text : Option ℕ → List ℕ
index_text None = []
index_text (Some index) = codes "[" ++ decimal index ++ codes "]"

abbrev pub field_text : List ℕ → List ℕ
field_text [] = []
field_text (b ∷ field) = codes "." ++ (b ∷ field)

-- `list[index].field`
abbrev pub spot_text : Spot → List ℕ
spot_text spot = spot.list ++ index_text spot.index ++ field_text spot.field
