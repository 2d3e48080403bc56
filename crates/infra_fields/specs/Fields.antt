-- Fields of an object: what each reads as, or its first fault.
use Rattle.std.specs.Prelude.{◌≡◌, ℕ, ℤ, pos, negsuc, List, [], ◌∷◌, ◌++◌, length, map, codes}
use Rattle.std.specs.Prelude.{if◌then◌else◌, Bool, false, ◌&&◌, nat_le, is_some, Option, Some, None}
use Rattle.std.specs.Prelude.{option_map, Result, Ok, Err}
use Rattle.serde_json.specs.Data.{Data, Items, no_items, item}
use Rattle.serde_json.specs.Find.{get, as_array, as_object, as_str}
use Rattle.decimal_quote.specs.declared.values.NotWhole.{NotWhole}
use Rattle.decimal_quote.specs.declared.values.NotWhole.TheVariants as not_whole
use Rattle.rail_types.specs.IdLists.{number_of, is_known}
use Rattle.rail_types.specs.declared.limits.TheConstants.{MAX_ID_BYTES, MAX_OBJECTS}
use Rattle.json_fields.specs.declared.spots.Spot.{Spot}
use Rattle.json_fields.specs.Numbers.{whole_value, scaled_value, count_value}
use Rattle.json_fields.specs.Places.{FilePlace, spot_of}
use Rattle.json_fields.specs.Reading.{◌>>=◌, or_fault}
use Rattle.json_fields.specs.Reading as reading
use Rattle.infra_fields.specs.declared.faults.InfraFault.{InfraFault}
use Rattle.infra_fields.specs.declared.faults.InfraFault.TheVariants.{Missing, Kind, Fraction}
use Rattle.infra_fields.specs.declared.faults.InfraFault.TheVariants.{Negative, Unknown, Twice}
use Rattle.infra_fields.specs.declared.faults.InfraFault.TheVariants.{Limit, Memory}
use Rattle.infra_fields.specs.declared.faults.What.{What}
use Rattle.infra_fields.specs.declared.faults.What.TheVariants as what

-- what a call returned, as its view shows it, is what the reading gives, unless memory was wanted
abbrev pub Gives : {X Y : Type 0} → (X → Y) → Result X InfraFault → Result Y InfraFault → Type 0
Gives see result read = reading.Gives Memory see result read

-- what is no object is of another kind
abbrev pub object_at : FilePlace → Data → Result (Unit {0}) InfraFault
object_at place d = if is_some (as_object d) then Ok tt else Err (Kind (spot_of place []))

abbrev pub found_at : FilePlace → List ℕ → Data → Result Data InfraFault
found_at place field d = or_fault (Missing (spot_of place field)) (get field d)

-- ---- texts and ids

abbrev pub text_of : FilePlace → List ℕ → Data → Result (List ℕ) InfraFault
text_of place field d = or_fault (Kind (spot_of place field)) (as_str d)

abbrev pub text_at : FilePlace → List ℕ → Data → Result (List ℕ) InfraFault
text_at place field d = do
  found ← found_at place field d
  text_of place field found

-- an id has 1 to 255 bytes
abbrev pub limited_id : List ℕ → Result (List ℕ) InfraFault
limited_id id =
    if nat_le 1 (length id) && nat_le (length id) MAX_ID_BYTES then Ok id
    else Err (Limit what.Id (pos (length id)))

abbrev pub id_at : FilePlace → List ℕ → Data → Result (List ℕ) InfraFault
id_at place field d = do
  id ← text_at place field d
  limited_id id

-- the object's own id, which none of those before it has
abbrev pub new_id_at : FilePlace → List (List ℕ) → Data → Result (List ℕ) InfraFault
new_id_at place before d = do
  id ← id_at place (codes "id") d
  if is_known id before then Err (Twice id) else Ok id

-- the number of the object with this id
abbrev pub known_number : FilePlace → List ℕ → List ℕ → List (List ℕ) → Result ℕ InfraFault
known_number place id field among = or_fault (Unknown id (spot_of place field)) (number_of id among)

-- the number of the object that a field names
abbrev pub number_at : FilePlace → List ℕ → List (List ℕ) → Data → Result ℕ InfraFault
number_at place field among d = do
  id ← id_at place field d
  known_number place id field among

-- ---- numbers

-- a number, or why the value is none
abbrev pub number_read : Spot → Data → Result ℤ NotWhole → Result ℤ InfraFault
number_read spot found (Ok number) = Ok number
number_read spot found (Err not_whole.Shape) = Err (Kind spot)
number_read spot found (Err not_whole.Range) = Err (Limit what.Number (count_value found))
number_read spot found (Err not_whole.Fraction) = Err (Fraction spot)

abbrev pub natural : Spot → ℤ → Result ℕ InfraFault
natural spot (pos number) = Ok number
natural spot (negsuc number) = Err (Negative spot)

-- whole metres
abbrev pub metres_at : FilePlace → List ℕ → Data → Result ℕ InfraFault
metres_at place field d = do
  found ← found_at place field d
  number ← number_read (spot_of place field) found (whole_value found)
  natural (spot_of place field) number

-- metres, rounded up or down to whole ones
abbrev pub rounded_at : FilePlace → List ℕ → Bool → Data → Result ℕ InfraFault
rounded_at place field up d = do
  found ← found_at place field d
  number ← number_read (spot_of place field) found (scaled_value found up false)
  natural (spot_of place field) number

-- a number within its limits
abbrev pub within : ℕ → ℕ → What → ℕ → Result ℕ InfraFault
within least most what number =
    if nat_le least number && nat_le number most then Ok number else Err (Limit what (pos number))

-- ---- lists

abbrev pub list_of : Items → List Data
list_of no_items = []
list_of (item d ds) = d ∷ list_of ds

-- the elements of what is a list
abbrev pub elements_in : Data → Option (List Data)
elements_in d = option_map list_of (as_array d)

abbrev pub few : List Data → Result (List Data) InfraFault
few ds = if nat_le (length ds) MAX_OBJECTS then Ok ds else Err (Limit what.List (pos (length ds)))

abbrev pub list_found : Spot → Data → Result (List Data) InfraFault
list_found spot d = do
  items ← or_fault (Kind spot) (elements_in d)
  few items

abbrev pub list_or_none : Spot → Option Data → Result (List Data) InfraFault
list_or_none spot None = Ok []
list_or_none spot (Some d) = list_found spot d

-- the list of a field, empty where the field is absent
abbrev pub list_at : FilePlace → List ℕ → Data → Result (List Data) InfraFault
list_at place field d = list_or_none (spot_of place field) (get field d)

-- Objects are read in order, each with its index and the ids of those before it.
abbrev pub read_each : {X : Type 0} → (X → List ℕ)
    → (ℕ → List (List ℕ) → Data → Result X InfraFault) → List X → List Data
    → Result (List X) InfraFault
read_each id one before [] = Ok before
read_each id one before (d ∷ ds) = do
  it ← one (length before) (map id before) d
  read_each id one (before ++ it ∷ []) ds

-- what was read stands behind the others, unless memory was wanted
abbrev pub GivesNext : {X : Type 0} → List X → List X → Result (Unit {0}) InfraFault
    → Result X InfraFault → Type 0
GivesNext {X} old new (Ok _) read = (it : X) × (read ≡ Ok it) × (new ≡ old ++ it ∷ [])
GivesNext old new (Err e) read = (e ≡ Memory → ⊥) → read ≡ Err e

-- Items of a list in an object are read in order, each with its index.
abbrev pub read_items : {X : Type 0} → (ℕ → Data → Result X InfraFault) → List X → List Data
    → Result (List X) InfraFault
read_items one before [] = Ok before
read_items one before (d ∷ ds) = do
  it ← one (length before) d
  read_items one (before ++ it ∷ []) ds
