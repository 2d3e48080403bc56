-- Where the values of a file stand.
use Rattle.std.specs.Prelude.{ℕ, List, [], ◌∷◌, ◌++◌, codes, decimal, Option, Some, None}
use Rattle.json_fields.specs.declared.spots.Spot.{Spot}

-- A place: the element of that index of that list, in it behind those fields, and there that item
-- of a list. Without an index it is the whole file.
pub record FilePlace : Type 0 where
  pub list : List ℕ
  pub index : Option ℕ
  pub within : List ℕ
  pub item : Option ℕ

abbrev pub whole_file : FilePlace
whole_file = record { list = []; index = None; within = []; item = None }

abbrev pub element : List ℕ → ℕ → FilePlace
element list index = record { list = list; index = Some index; within = []; item = None }

abbrev pub part_of : FilePlace → List ℕ → FilePlace
part_of place within = record {
  list = place.list;
  index = place.index;
  within = within;
  item = None;
}

abbrev pub item_of : FilePlace → List ℕ → ℕ → FilePlace
item_of place within item = record {
  list = place.list;
  index = place.index;
  within = within;
  item = Some item;
}

-- `ports.B1`, `parts[2]`
abbrev pub leading : List ℕ → Option ℕ → List ℕ
leading within None = within
leading within (Some item) = within ++ codes "[" ++ decimal item ++ codes "]"

-- a dot stands between two names
abbrev pub joined : List ℕ → List ℕ → List ℕ
joined [] field = field
joined (b ∷ front) [] = b ∷ front
joined (b ∷ front) (c ∷ field) = (b ∷ front) ++ codes "." ++ (c ∷ field)

-- `ports.B1.track`, `parts[2].position`, `parts[2]`
abbrev pub path_to : List ℕ → Option ℕ → List ℕ → List ℕ
path_to within item field = joined (leading within item) field

abbrev pub spot_in : FilePlace → Option ℕ → List ℕ → Spot
spot_in place None field = record { list = field; index = None; field = [] }
spot_in place (Some index) field =
    record { list = place.list; index = Some index; field = path_to place.within place.item field }

-- The spot of a field: `list[index].field`, and its name alone where the object is the whole file.
abbrev pub spot_of : FilePlace → List ℕ → Spot
spot_of place field = spot_in place place.index field
