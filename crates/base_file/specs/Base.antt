-- What the bytes of a base file read as: the settings and the claims of
-- its trains, or the first fault.
use Rattle.std.specs.Prelude.{◌≡◌, ℕ, ◌+◌, ◌⊎◌, pos, List, codes, length, if◌then◌else◌, nat_le}
use Rattle.std.specs.Prelude.{is_some, AllPairs, Result, Ok, Err}
use Rattle.serde_json.specs.Data.{Data}
use Rattle.serde_json.specs.Find.{as_object}
use Rattle.rail_types.specs.declared.bases.Base.{Base}
use Rattle.rail_types.specs.declared.bases.BaseClaim.{BaseClaim}
use Rattle.rail_types.specs.declared.entries.Settings.{Settings}
use Rattle.rail_types.specs.declared.limits.TheConstants.{MAX_TIMETABLE_FILE_BYTES, MAX_TICK_S}
use Rattle.rail_types.specs.declared.limits.TheConstants.{MAX_SETTING, MAX_RELEASE, MAX_HORIZON}
use Rattle.rail_types.specs.declared.limits.TheConstants.{MIN_JOURNAL_BYTES, MAX_JOURNAL_BYTES}
use Rattle.json_fields.specs.Places.{FilePlace, whole_file, spot_of}
use Rattle.json_fields.specs.Reading.{◌>>=◌, or_fault}
use Rattle.json_fields.specs.Texts.{data_of}
use Rattle.base_file.specs.declared.faults.BaseFault.{BaseFault}
use Rattle.base_file.specs.declared.faults.BaseFault.TheVariants.{NotJson, Kind, Limit, Memory}
use Rattle.base_file.specs.declared.faults.BaseFault.TheVariants.{Overlap}
use Rattle.base_file.specs.declared.faults.What.TheVariants as what
use Rattle.base_file.specs.Claims.{claims_of_trains}
use Rattle.base_file.specs.Fields.{number_at, flag_at, list_at}
use Rattle.base_file.specs.Overlaps.{Apart, IsFirstOverlap}

abbrev pub journal_bytes_in : FilePlace → Data → Result ℕ BaseFault
journal_bytes_in place d =
    number_at place (codes "journal_bytes") what.JournalBytes MIN_JOURNAL_BYTES MAX_JOURNAL_BYTES
    d

-- the settings, in the order of their fields
abbrev pub settings_in : FilePlace → Data → Result Settings BaseFault
settings_in place d = do
  tick_s ← number_at place (codes "tick_s") what.TickS 1 MAX_TICK_S d
  setting ← number_at place (codes "setting") what.Setting 0 MAX_SETTING d
  release ← number_at place (codes "release") what.Release 0 MAX_RELEASE d
  horizon ← number_at place (codes "horizon") what.Horizon 1 MAX_HORIZON d
  journal_bytes ← journal_bytes_in place d
  speed_loss ← flag_at place (codes "speed_loss") what.SpeedLoss d
  Ok (record {
    tick_s = tick_s;
    setting = setting;
    release = release;
    horizon = horizon;
    journal_bytes = journal_bytes;
    speed_loss = speed_loss;
  })

-- the claims of the trains of a file
abbrev pub claims_in : ℕ → Data → Result (List BaseClaim) BaseFault
claims_in zones d = list_at whole_file (codes "trains") d >>= claims_of_trains zones

abbrev pub base_in : ℕ → Data → Result Base BaseFault
base_in zones d = do
  settings ← settings_in whole_file d
  claims ← claims_in zones d
  Ok (record { settings = settings; claims = claims })

abbrev pub object_of : ℕ → Data → Result Base BaseFault
object_of zones d =
    if is_some (as_object d) then base_in zones d
    else Err (Kind (spot_of whole_file (codes "file")))

abbrev pub text_at : ℕ → List ℕ → Result Base BaseFault
text_at zones quoted = do
  d ← or_fault NotJson (data_of quoted)
  object_of zones d

-- What bytes read as, where `quoted` is their text with its numbers quoted, whether or not trains
-- want one zone at once. The size of a file comes before all else.
abbrev pub base_at : ℕ → List ℕ → List ℕ → Result Base BaseFault
base_at zones bytes quoted =
    if nat_le (length bytes) MAX_TIMETABLE_FILE_BYTES then text_at zones quoted
    else Err (Limit what.File (pos (MAX_TIMETABLE_FILE_BYTES + 1)))

-- the fault tells the first overlap of these claims
abbrev pub TellsOverlap : List BaseClaim → BaseFault → Type 0
TellsOverlap claims fault =
    (zone a b : ℕ) × (fault ≡ Overlap zone a b) × IsFirstOverlap claims zone a b

-- a base that was read, whose trains want one zone at once
abbrev pub ReadsAsOverlap : Result Base BaseFault → BaseFault → Type 0
ReadsAsOverlap read fault = (base : Base) × (read ≡ Ok base) × TellsOverlap base.claims fault

-- What a call returned: the base that was read, or the first fault of the reading, or, where it has
-- none, the first overlap. That a base has no overlap stands in the call's other clause.
abbrev pub GivesBase : Result Base BaseFault → Result Base BaseFault → Type 0
GivesBase (Ok base) read = read ≡ Ok base
GivesBase (Err e) read = (e ≡ Memory → ⊥) → (read ≡ Err e) ⊎ ReadsAsOverlap read e

-- inside: no two claims clash, or the fault tells the first that do
abbrev pub Refuses : List BaseClaim → Result (Unit {0}) BaseFault → Type 0
Refuses claims (Ok _) = AllPairs Apart claims
Refuses claims (Err e) = (e ≡ Memory → ⊥) → TellsOverlap claims e
