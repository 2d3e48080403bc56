-- Faults as reports write them.
use Rattle.std.specs.Prelude.{ℕ, ℤ, List, ◌++◌, codes}
use Rattle.std.specs.Fmt.{signed_decimal}
use Rattle.json_fields.specs.declared.spots.Spot.{Spot}
use Rattle.json_fields.specs.Escapes.{escaped}
use Rattle.json_fields.specs.Spots.{spot_text}
use Rattle.infra_fields.specs.declared.faults.InfraFault.{InfraFault}
use Rattle.infra_fields.specs.declared.faults.InfraFault.TheVariants.{NotJson, Missing, Kind}
use Rattle.infra_fields.specs.declared.faults.InfraFault.TheVariants.{Fraction, Negative, Unknown}
use Rattle.infra_fields.specs.declared.faults.InfraFault.TheVariants.{Twice, SwitchType, Limit}
use Rattle.infra_fields.specs.declared.faults.InfraFault.TheVariants.{Memory}
use Rattle.infra_fields.specs.declared.faults.What.{What}
use Rattle.infra_fields.specs.declared.faults.What.TheVariants as what

abbrev pub word_of : What → List ℕ
word_of what.File = codes "file"
word_of what.List = codes "list"
word_of what.Id = codes "id"
word_of what.Number = codes "number"
word_of what.Length = codes "length"
word_of what.Sight = codes "sight"
word_of what.Speed = codes "speed"

abbrev pub spot_fault : List ℕ → Spot → List ℕ
spot_fault word spot = word ++ spot_text spot

abbrev pub id_fault : List ℕ → List ℕ → List ℕ
id_fault word id = word ++ escaped id

abbrev pub unknown_fault : List ℕ → Spot → List ℕ
unknown_fault id spot = id_fault (codes "unknown ") id ++ codes " at " ++ spot_text spot

abbrev pub limit_fault : What → ℤ → List ℕ
limit_fault what count = codes "limit " ++ word_of what ++ codes " " ++ signed_decimal count

-- the text of a fault
abbrev pub fault_text : InfraFault → List ℕ
fault_text NotJson = codes "not-json"
fault_text (Missing spot) = spot_fault (codes "missing ") spot
fault_text (Kind spot) = spot_fault (codes "kind ") spot
fault_text (Fraction spot) = spot_fault (codes "fraction ") spot
fault_text (Negative spot) = spot_fault (codes "negative ") spot
fault_text (Unknown id spot) = unknown_fault id spot
fault_text (Twice id) = id_fault (codes "twice ") id
fault_text (SwitchType id) = id_fault (codes "switch-type ") id
fault_text (Limit what count) = limit_fault what count
fault_text Memory = codes "no-memory"
