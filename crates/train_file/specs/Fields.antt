-- Fields of an object: what each reads as, or its first fault.
use Rattle.std.specs.Prelude.{◌≡◌, ℕ, ◌≤◌, ℤ, IsUtf8, pos, negsuc, List, [], ◌∷◌, length}
use Rattle.std.specs.Prelude.{if◌then◌else◌, ◌&&◌, nat_eq, nat_le, is_some, Option, Result, Ok, Err}
use Rattle.serde_json.specs.Data.{Data, Items, no_items, item}
use Rattle.serde_json.specs.Find.{get, as_array, as_object, as_str}
use Rattle.decimal_quote.specs.declared.values.NotWhole.{NotWhole}
use Rattle.decimal_quote.specs.declared.values.NotWhole.TheVariants as not_whole
use Rattle.rail_types.specs.declared.limits.TheConstants.{MAX_TRAIN_NAME_BYTES, MAX_TRAINS}
use Rattle.json_fields.specs.declared.spots.Spot.{Spot}
use Rattle.json_fields.specs.Numbers.{whole_value, count_value}
use Rattle.json_fields.specs.Places.{FilePlace, spot_of}
use Rattle.json_fields.specs.Reading.{◌>>=◌, or_fault}
use Rattle.json_fields.specs.Reading as reading
use Rattle.train_file.specs.declared.faults.TrainFault.{TrainFault}
use Rattle.train_file.specs.declared.faults.TrainFault.TheVariants.{Missing, Kind, Zero, Limit}
use Rattle.train_file.specs.declared.faults.TrainFault.TheVariants.{Memory}
use Rattle.train_file.specs.declared.faults.What.{What}
use Rattle.train_file.specs.declared.faults.What.TheVariants as what

-- what a call returned, as its view shows it, is what the reading gives, unless memory was wanted
abbrev pub Gives : {X Y : Type 0} → (X → Y) → Result X TrainFault → Result Y TrainFault → Type 0
Gives see result read = reading.Gives Memory see result read

-- what is no object is of another kind
abbrev pub object_at : FilePlace → Data → Result (Unit {0}) TrainFault
object_at place d = if is_some (as_object d) then Ok tt else Err (Kind (spot_of place []))

abbrev pub found_at : FilePlace → List ℕ → Data → Result Data TrainFault
found_at place field d = or_fault (Missing (spot_of place field)) (get field d)

-- a name of 1 to 255 bytes
pub record IsName (name : List ℕ) : Type 0 where
  pub least : 1 ≤ length name
  pub most : length name ≤ MAX_TRAIN_NAME_BYTES
  pub text : IsUtf8 name

-- a name has 1 to 255 bytes
abbrev pub limited_name : List ℕ → Result (List ℕ) TrainFault
limited_name name =
    if nat_le 1 (length name) && nat_le (length name) MAX_TRAIN_NAME_BYTES
    then Ok name
    else Err (Limit what.Name (pos (length name)))

abbrev pub name_at : FilePlace → List ℕ → Data → Result (List ℕ) TrainFault
name_at place field d = do
  found ← found_at place field d
  name ← or_fault (Kind (spot_of place field)) (as_str found)
  limited_name name

-- A whole number, or why the value is none; a fraction is of another kind.
abbrev pub number_read : Spot → Data → Result ℤ NotWhole → Result ℤ TrainFault
number_read spot found (Ok number) = Ok number
number_read spot found (Err not_whole.Range) = Err (Limit what.Number (count_value found))
number_read spot found (Err not_whole.Shape) = Err (Kind spot)
number_read spot found (Err not_whole.Fraction) = Err (Kind spot)

-- a number from 0 to the most
abbrev pub within : What → ℕ → ℤ → Result ℕ TrainFault
within what most (pos number) =
    if nat_le number most then Ok number else Err (Limit what (pos number))
within what most (negsuc number) = Err (Limit what (negsuc number))

abbrev pub number_at : FilePlace → List ℕ → What → ℕ → Data → Result ℕ TrainFault
number_at place field what most d = do
  found ← found_at place field d
  number ← number_read (spot_of place field) found (whole_value found)
  within what most number

abbrev pub some_number : Spot → ℕ → Result ℕ TrainFault
some_number spot number = if nat_eq number 0 then Err (Zero spot) else Ok number

-- a number from 1 to the most; 0 is a fault of its own
abbrev pub some_number_at : FilePlace → List ℕ → What → ℕ → Data → Result ℕ TrainFault
some_number_at place field what most d = do
  number ← number_at place field what most d
  some_number (spot_of place field) number

abbrev pub list_of : Items → List Data
list_of no_items = []
list_of (item d ds) = d ∷ list_of ds

abbrev pub few : List Data → Result (List Data) TrainFault
few ds = if nat_le (length ds) MAX_TRAINS then Ok ds else Err (Limit what.List (pos (length ds)))

abbrev pub elements_of : Spot → Data → Result (List Data) TrainFault
elements_of spot d = do
  items ← or_fault (Kind spot) (as_array d)
  few (list_of items)

abbrev pub list_at : FilePlace → List ℕ → Data → Result (List Data) TrainFault
list_at place field d = do
  found ← found_at place field d
  elements_of (spot_of place field) found
