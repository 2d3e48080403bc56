-- Fields of an object: what each reads as, or its first fault.
use Rattle.std.specs.Prelude.{ℕ, ℤ, pos, negsuc, List, [], ◌∷◌, length, Bool, true, false}
use Rattle.std.specs.Prelude.{if◌then◌else◌, ◌==◌, nat_lt, is_some, Option, Some, None, Result, Ok}
use Rattle.std.specs.Prelude.{Err}
use Rattle.serde_json.specs.Data.{Data, Items, no_items, item}
use Rattle.serde_json.specs.Find.{get, as_array, as_object, as_str}
use Rattle.decimal_quote.specs.declared.values.NotWhole.{NotWhole}
use Rattle.decimal_quote.specs.declared.values.NotWhole.TheVariants as not_whole
use Rattle.rail_types.specs.Limits.{is_between, is_tick}
use Rattle.rail_types.specs.declared.limits.TheConstants.{MAX_TRAIN_NAME_BYTES}
use Rattle.json_fields.specs.declared.spots.Spot.{Spot}
use Rattle.json_fields.specs.Numbers.{whole_value, count_value}
use Rattle.json_fields.specs.Places.{FilePlace, spot_of}
use Rattle.json_fields.specs.Reading.{◌>>=◌, or_fault}
use Rattle.json_fields.specs.Reading as reading
use Rattle.base_file.specs.declared.faults.BaseFault.{BaseFault}
use Rattle.base_file.specs.declared.faults.BaseFault.TheVariants.{Missing, Kind, ZoneUnknown, Limit}
use Rattle.base_file.specs.declared.faults.BaseFault.TheVariants.{Memory}
use Rattle.base_file.specs.declared.faults.What.{What}
use Rattle.base_file.specs.declared.faults.What.TheVariants as what

-- what a call returned, as its view shows it, is what the reading gives, unless memory was wanted
abbrev pub Gives : {X Y : Type 0} → (X → Y) → Result X BaseFault → Result Y BaseFault → Type 0
Gives see result read = reading.Gives Memory see result read

-- what is no object is of another kind
abbrev pub object_at : FilePlace → Data → Result (Unit {0}) BaseFault
object_at place d = if is_some (as_object d) then Ok tt else Err (Kind (spot_of place []))

abbrev pub found_at : FilePlace → List ℕ → Data → Result Data BaseFault
found_at place field d = or_fault (Missing (spot_of place field)) (get field d)

-- a name has 1 to 255 bytes
abbrev pub limited_name : List ℕ → Result (Unit {0}) BaseFault
limited_name name =
    if is_between 1 MAX_TRAIN_NAME_BYTES (length name) then Ok tt
    else Err (Limit what.Name (pos (length name)))

-- the name of a train; none is kept, and names may repeat
abbrev pub name_at : FilePlace → List ℕ → Data → Result (Unit {0}) BaseFault
name_at place field d = do
  found ← found_at place field d
  name ← or_fault (Kind (spot_of place field)) (as_str found)
  limited_name name

-- A whole number, or why the value is none; a fraction is of another kind.
abbrev pub number_read : Spot → Data → Result ℤ NotWhole → Result ℤ BaseFault
number_read spot found (Ok number) = Ok number
number_read spot found (Err not_whole.Range) = Err (Limit what.Number (count_value found))
number_read spot found (Err not_whole.Shape) = Err (Kind spot)
number_read spot found (Err not_whole.Fraction) = Err (Kind spot)

-- the whole number of a field
abbrev pub whole_at : FilePlace → List ℕ → Data → Result ℤ BaseFault
whole_at place field d = do
  found ← found_at place field d
  number_read (spot_of place field) found (whole_value found)

-- a number from the least to the most
abbrev pub within : What → ℕ → ℕ → ℤ → Result ℕ BaseFault
within what least most (pos number) =
    if is_between least most number then Ok number else Err (Limit what (pos number))
within what least most (negsuc number) = Err (Limit what (negsuc number))

abbrev pub number_at : FilePlace → List ℕ → What → ℕ → ℕ → Data → Result ℕ BaseFault
number_at place field what least most d = do
  number ← whole_at place field d
  within what least most number

-- a tick that a file may name
abbrev pub near : What → ℤ → Result ℤ BaseFault
near what tick = if is_tick tick then Ok tick else Err (Limit what tick)

abbrev pub tick_at : FilePlace → List ℕ → What → Data → Result ℤ BaseFault
tick_at place field what d = do
  tick ← whole_at place field d
  near what tick

-- a zone, one of so many
abbrev pub zone_among : ℕ → Spot → ℤ → Result ℕ BaseFault
zone_among zones spot (pos zone) =
    if nat_lt zone zones then Ok zone else Err (ZoneUnknown spot (pos zone))
zone_among zones spot (negsuc zone) = Err (ZoneUnknown spot (negsuc zone))

abbrev pub zone_at : FilePlace → List ℕ → ℕ → Data → Result ℕ BaseFault
zone_at place field zones d = do
  zone ← whole_at place field d
  zone_among zones (spot_of place field) zone

-- 0 is no and 1 is yes
abbrev pub flag : What → ℤ → Result Bool BaseFault
flag what (pos number) =
    if number == 0 then Ok false
    else if number == 1 then Ok true
    else Err (Limit what (pos number))
flag what (negsuc number) = Err (Limit what (negsuc number))

-- what is absent is no
abbrev pub flag_in : Spot → What → Option Data → Result Bool BaseFault
flag_in spot what None = Ok false
flag_in spot what (Some found) = do
  number ← number_read spot found (whole_value found)
  flag what number

abbrev pub flag_at : FilePlace → List ℕ → What → Data → Result Bool BaseFault
flag_at place field what d = flag_in (spot_of place field) what (get field d)

abbrev pub list_of : Items → List Data
list_of no_items = []
list_of (item d ds) = d ∷ list_of ds

abbrev pub elements_in : Spot → Option Items → Result (List Data) BaseFault
elements_in spot None = Err (Kind spot)
elements_in spot (Some items) = Ok (list_of items)

abbrev pub elements_of : Spot → Data → Result (List Data) BaseFault
elements_of spot d = elements_in spot (as_array d)

abbrev pub list_at : FilePlace → List ℕ → Data → Result (List Data) BaseFault
list_at place field d = do
  found ← found_at place field d
  elements_of (spot_of place field) found
