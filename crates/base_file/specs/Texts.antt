-- Faults as reports write them.
use Rattle.std.specs.Prelude.{ℕ, ℤ, List, ◌++◌, codes, decimal}
use Rattle.std.specs.Fmt.{signed_decimal}
use Rattle.json_fields.specs.declared.spots.Spot.{Spot}
use Rattle.json_fields.specs.Spots.{spot_text}
use Rattle.base_file.specs.declared.faults.BaseFault.{BaseFault}
use Rattle.base_file.specs.declared.faults.BaseFault.TheVariants.{NotJson, Missing, Kind}
use Rattle.base_file.specs.declared.faults.BaseFault.TheVariants.{ZoneUnknown, EmptySpan, Overlap}
use Rattle.base_file.specs.declared.faults.BaseFault.TheVariants.{Limit, Memory}
use Rattle.base_file.specs.declared.faults.What.{What}
use Rattle.base_file.specs.declared.faults.What.TheVariants as what

abbrev pub word_of : What → List ℕ
word_of what.File = codes "file"
word_of what.List = codes "list"
word_of what.Number = codes "number"
word_of what.TickS = codes "tick_s"
word_of what.Setting = codes "setting"
word_of what.Release = codes "release"
word_of what.Horizon = codes "horizon"
word_of what.JournalBytes = codes "journal_bytes"
word_of what.SpeedLoss = codes "speed_loss"
word_of what.Name = codes "name"
word_of what.From = codes "from"
word_of what.To = codes "to"

abbrev pub spot_fault : List ℕ → Spot → List ℕ
spot_fault word spot = word ++ spot_text spot

abbrev pub zone_fault : Spot → ℤ → List ℕ
zone_fault spot zone = spot_fault (codes "zone-unknown ") spot ++ codes " " ++ signed_decimal zone

abbrev pub overlap_fault : ℕ → ℕ → ℕ → List ℕ
overlap_fault zone a b =
    codes "overlap zone " ++ decimal zone ++ codes " trains " ++ decimal a ++ codes " "
    ++ decimal b

abbrev pub limit_fault : What → ℤ → List ℕ
limit_fault what count = codes "limit " ++ word_of what ++ codes " " ++ signed_decimal count

-- the text of a fault
abbrev pub fault_text : BaseFault → List ℕ
fault_text NotJson = codes "not-json"
fault_text (Missing spot) = spot_fault (codes "missing ") spot
fault_text (Kind spot) = spot_fault (codes "kind ") spot
fault_text (ZoneUnknown spot zone) = zone_fault spot zone
fault_text (EmptySpan spot) = spot_fault (codes "empty-span ") spot
fault_text (Overlap zone a b) = overlap_fault zone a b
fault_text (Limit what count) = limit_fault what count
fault_text Memory = codes "no-memory"
