-- What the bytes of a file of trains read as: the trains in their order, or the first fault.
use Rattle.std.specs.Prelude.{◌≡◌, ◌≢◌, ℕ, ◌≤◌, ◌+◌, pos, List, [], ◌∷◌, ◌++◌, length, map, codes}
use Rattle.std.specs.Prelude.{find, if◌then◌else◌, nat_le, is_some, Option, Result, Ok, Err}
use Rattle.std.specs.List.{All, AllPairs, list_any}
use Rattle.std.specs.Str.{bytes_eq}
use Rattle.serde_json.specs.Data.{Data}
use Rattle.serde_json.specs.Find.{as_object}
use Rattle.rail_types.specs.declared.trains.Train.{Train}
use Rattle.rail_types.specs.Limits.{IsTrainWithinLimits}
use Rattle.rail_types.specs.declared.limits.TheConstants.{MAX_TIMETABLE_FILE_BYTES, MAX_TRAINS}
use Rattle.rail_types.specs.declared.limits.TheConstants.{MAX_TRAIN_LENGTH_M, MAX_SPEED_MM_S}
use Rattle.rail_types.specs.declared.limits.TheConstants.{MAX_ACCEL_MM_S2, MAX_ALLOWANCE_PERCENT}
use Rattle.json_fields.specs.Places.{FilePlace, whole_file, element, spot_of}
use Rattle.json_fields.specs.Reading.{◌>>=◌, or_fault}
use Rattle.json_fields.specs.Texts.{data_of}
use Rattle.train_file.specs.declared.faults.TrainFault.{TrainFault}
use Rattle.train_file.specs.declared.faults.TrainFault.TheVariants.{NotJson, Kind, Twice, Limit}
use Rattle.train_file.specs.declared.faults.TrainFault.TheVariants.{Memory}
use Rattle.train_file.specs.declared.faults.What.TheVariants as what
use Rattle.train_file.specs.Fields.{object_at, name_at, number_at, some_number_at, list_at}

-- No more trains than their limit, each within its own limits, no two with one name.
pub record AreTrains (trains : List Train) : Type 0 where
  pub few : length trains ≤ MAX_TRAINS
  pub each : All IsTrainWithinLimits trains
  pub distinct : AllPairs (λ one other. one.name ≢ other.name) trains

-- the train of a name
abbrev pub train_named : List ℕ → List Train → Option Train
train_named name trains = find (λ train. bytes_eq name train.name) trains

abbrev pub name_of : Train → List ℕ
name_of train = train.name

-- a name that none of these is
abbrev pub new_name : List (List ℕ) → List ℕ → Result (List ℕ) TrainFault
new_name before name = if list_any (bytes_eq name) before then Err (Twice name) else Ok name

-- the six fields of a train, in their order
abbrev pub train_in : FilePlace → List (List ℕ) → Data → Result Train TrainFault
train_in place before d = do
  object ← object_at place d
  text ← name_at place (codes "name") d
  name ← new_name before text
  length_m ← some_number_at place (codes "length_m") what.LengthM MAX_TRAIN_LENGTH_M d
  speed ← some_number_at place (codes "speed") what.Speed MAX_SPEED_MM_S d
  accel ← some_number_at place (codes "accel") what.Accel MAX_ACCEL_MM_S2 d
  brake ← some_number_at place (codes "brake") what.Brake MAX_ACCEL_MM_S2 d
  allowance ← number_at place (codes "allowance") what.Allowance MAX_ALLOWANCE_PERCENT d
  Ok (record {
    name = name;
    length_m = length_m;
    speed = speed;
    accel = accel;
    brake = brake;
    allowance = allowance;
  })

-- trains are read in order, each with its index and the names of those before it
abbrev pub read_each : List Train → List Data → Result (List Train) TrainFault
read_each before [] = Ok before
read_each before (d ∷ ds) = do
  train ← train_in (element (codes "trains") (length before)) (map name_of before) d
  read_each (before ++ train ∷ []) ds

abbrev pub object_of : Data → Result (List Train) TrainFault
object_of d =
    if is_some (as_object d) then list_at whole_file (codes "trains") d >>= read_each []
    else Err (Kind (spot_of whole_file (codes "file")))

abbrev pub text_at : List ℕ → Result (List Train) TrainFault
text_at quoted = do
  d ← or_fault NotJson (data_of quoted)
  object_of d

-- What bytes read as, where `quoted` is their text with its numbers quoted. The size of
-- a file comes before all else.
abbrev pub trains_at : List ℕ → List ℕ → Result (List Train) TrainFault
trains_at bytes quoted =
    if nat_le (length bytes) MAX_TIMETABLE_FILE_BYTES then text_at quoted
    else Err (Limit what.File (pos (MAX_TIMETABLE_FILE_BYTES + 1)))

-- what was read stands behind the others, unless memory was wanted
abbrev pub GivesNext : List Train → List Train → Result (Unit {0}) TrainFault
    → Result Train TrainFault → Type 0
GivesNext old new (Ok _) read = (train : Train) × (read ≡ Ok train) × (new ≡ old ++ train ∷ [])
GivesNext old new (Err e) read = (e ≡ Memory → ⊥) → read ≡ Err e
