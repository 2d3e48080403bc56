-- Signals.
use Rattle.rail_types.specs.InfraIds.{id_of_signal, id_of_track}
use Rattle.std.specs.Prelude.{ℕ, List, [], map, codes, Bool, false, true, if◌then◌else◌}
use Rattle.std.specs.Prelude.{Option, Some, None, option_and_then, Result, Ok}
use Rattle.std.specs.List.{list_any}
use Rattle.std.specs.Str.{bytes_eq}
use Rattle.serde_json.specs.Data.{Data}
use Rattle.serde_json.specs.Find.{get, as_str}
use Rattle.rail_types.specs.declared.limits.TheConstants.{MAX_SIGHT_M}
use Rattle.json_fields.specs.Places.{FilePlace, whole_file, element}
use Rattle.json_fields.specs.Reading.{◌>>=◌}
use Rattle.rail_types.specs.declared.infra_types.tracks.Track.{Track}
use Rattle.rail_types.specs.declared.infra_types.signals.Bal.{Bal}
use Rattle.rail_types.specs.declared.infra_types.signals.Signal.{Signal}
use Rattle.infra_fields.specs.declared.faults.InfraFault.{InfraFault}
use Rattle.infra_fields.specs.declared.faults.What.TheVariants as what
use Rattle.infra_fields.specs.Fields.{object_at, new_id_at, number_at, metres_at, rounded_at}
use Rattle.infra_fields.specs.Fields.{within, elements_in, list_at, read_each}
use Rattle.infra_fields.specs.Words.{direction_at}

abbrev pub is_text : List ℕ → Option (List ℕ) → Bool
is_text word None = false
is_text word (Some text) = bytes_eq text word

-- whether a logical signal is one of automatic block
abbrev pub is_bal : Data → Bool
is_bal d = is_text (codes "BAL") (option_and_then as_str (get (codes "signaling_system") d))

abbrev pub any_of : Option (List Data) → Bool
any_of None = false
any_of (Some items) = list_any is_bal items

abbrev pub any_bal : Data → Bool
any_bal d = any_of (elements_in d)

-- whether some logical signal is one of automatic block
abbrev pub is_block_signal : Data → Bool
is_block_signal d = any_of (option_and_then elements_in (get (codes "logical_signals") d))

-- a sight distance in metres, rounded up
abbrev pub sight_at : FilePlace → Data → Result ℕ InfraFault
sight_at place d = do
  metres ← rounded_at place (codes "sight_distance") true d
  within 0 MAX_SIGHT_M what.Sight metres

abbrev pub bal_in : FilePlace → List (List ℕ) → Data → Result Bal InfraFault
bal_in place tracks d = do
  track ← number_at place (codes "track") tracks d
  position ← metres_at place (codes "position") d
  direction ← direction_at place (codes "direction") d
  sight ← sight_at place d
  Ok (record { track = track; position = position; direction = direction; sight_m = sight })

abbrev pub some_bal_in : FilePlace → List (List ℕ) → Data → Result (Option Bal) InfraFault
some_bal_in place tracks d = do
  bal ← bal_in place tracks d
  Ok (Some bal)

-- of a signal that is no block signal only the id is read
abbrev pub bal_at : FilePlace → List (List ℕ) → Data → Result (Option Bal) InfraFault
bal_at place tracks d = if is_block_signal d then some_bal_in place tracks d else Ok None

abbrev pub signal_in : FilePlace → List (List ℕ) → List (List ℕ) → Data → Result Signal InfraFault
signal_in place tracks before d = do
  is_object ← object_at place d
  id ← new_id_at place before d
  bal ← bal_at place tracks d
  Ok (record { id = id; bal = bal })

-- the signal of that index, behind those of these ids
abbrev pub signal_at : List (List ℕ) → ℕ → List (List ℕ) → Data → Result Signal InfraFault
signal_at tracks index before d = signal_in (element (codes "signals") index) tracks before d

-- the signals of a file
unfoldable pub signals_in : List Track → Data → Result (List Signal) InfraFault
signals_in tracks d = do
  items ← list_at whole_file (codes "signals") d
  read_each id_of_signal (signal_at (map id_of_track tracks)) [] items
