-- Faults as reports write them.
use Rattle.std.specs.Prelude.{ℕ, ℤ, List, ◌++◌, codes}
use Rattle.std.specs.Fmt.{signed_decimal}
use Rattle.json_fields.specs.declared.spots.Spot.{Spot}
use Rattle.json_fields.specs.Escapes.{escaped}
use Rattle.json_fields.specs.Spots.{spot_text}
use Rattle.train_file.specs.declared.faults.TrainFault.{TrainFault}
use Rattle.train_file.specs.declared.faults.TrainFault.TheVariants.{NotJson, Missing, Kind, Zero}
use Rattle.train_file.specs.declared.faults.TrainFault.TheVariants.{Twice, Limit, Memory}
use Rattle.train_file.specs.declared.faults.What.{What}
use Rattle.train_file.specs.declared.faults.What.TheVariants as what

abbrev pub word_of : What → List ℕ
word_of what.File = codes "file"
word_of what.List = codes "list"
word_of what.Number = codes "number"
word_of what.Name = codes "name"
word_of what.LengthM = codes "length_m"
word_of what.Speed = codes "speed"
word_of what.Accel = codes "accel"
word_of what.Brake = codes "brake"
word_of what.Allowance = codes "allowance"

abbrev pub spot_fault : List ℕ → Spot → List ℕ
spot_fault word spot = word ++ spot_text spot

abbrev pub name_fault : List ℕ → List ℕ
name_fault name = codes "twice " ++ escaped name

abbrev pub limit_fault : What → ℤ → List ℕ
limit_fault what count = codes "limit " ++ word_of what ++ codes " " ++ signed_decimal count

-- the text of a fault
abbrev pub fault_text : TrainFault → List ℕ
fault_text NotJson = codes "not-json"
fault_text (Missing spot) = spot_fault (codes "missing ") spot
fault_text (Kind spot) = spot_fault (codes "kind ") spot
fault_text (Zero spot) = spot_fault (codes "zero ") spot
fault_text (Twice name) = name_fault name
fault_text (Limit what count) = limit_fault what count
fault_text Memory = codes "no-memory"
