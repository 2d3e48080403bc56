-- What the bytes of a file of infrastructure read as: its lists, or the first fault.
use Rattle.std.specs.Prelude.{◌≡◌, ℕ, ◌+◌, pos, List, length, codes, if◌then◌else◌, nat_le}
use Rattle.std.specs.Prelude.{is_some, Option, Some, None, Result, Ok, Err}
use Rattle.serde_json.specs.Data.{Data}
use Rattle.serde_json.specs.Find.{as_object}
use Rattle.serde_json.specs.View.{view}
use Rattle.serde_json.specs.declared.value.Value.{Value}
use Rattle.rail_types.specs.declared.limits.TheConstants.{MAX_NETWORK_FILE_BYTES}
use Rattle.json_fields.specs.Places.{whole_file, spot_of}
use Rattle.json_fields.specs.Reading.{◌>>=◌, or_fault}
use Rattle.json_fields.specs.Texts.{data_of}
use Rattle.rail_types.specs.declared.infra_types.infras.Infra.{Infra}
use Rattle.infra_fields.specs.declared.faults.InfraFault.{InfraFault}
use Rattle.infra_fields.specs.declared.faults.InfraFault.TheVariants.{NotJson, Kind, Limit}
use Rattle.infra_fields.specs.declared.faults.InfraFault.TheVariants.{Memory}
use Rattle.infra_fields.specs.declared.faults.What.TheVariants as what
use Rattle.infra_fields.specs.Kept.{KeepsHalf}
use Rattle.infra_fields.specs.declared.file_values.halves.Half.{Half}
use Rattle.railjson_read.specs.Objects.{tracks_in, switches_in, all_placed_in}
use Rattle.railjson_read.specs.Signals.{signals_in}
use Rattle.railjson_read.specs.Points.{points_in}
use Rattle.railjson_read.specs.Routes.{routes_in}
use Rattle.railjson_read.specs.Speeds.{speeds_in}
use Rattle.railjson_read.specs.declared.wholes.FirstLists.{FirstLists}
use Rattle.railjson_read.specs.declared.wholes.Landmarks.{Landmarks}
use Rattle.railjson_read.specs.declared.wholes.Others.{Others}

-- the lists whose objects others name
unfoldable pub landmarks_in : Data → Result Landmarks InfraFault
landmarks_in d = do
  tracks ← tracks_in d
  switches ← switches_in tracks d
  detectors ← all_placed_in (codes "detectors") tracks d
  buffer_stops ← all_placed_in (codes "buffer_stops") tracks d
  Ok (record {
    tracks = tracks;
    switches = switches;
    detectors = detectors;
    buffer_stops = buffer_stops;
  })

-- the first lists: those, and the signals on their tracks
unfoldable pub first_in : Data → Result FirstLists InfraFault
first_in d = do
  landmarks ← landmarks_in d
  signals ← signals_in landmarks.tracks d
  Ok (record { landmarks = landmarks; signals = signals })

-- the lists behind those
unfoldable pub others_in : Landmarks → Data → Result Others InfraFault
others_in landmarks d = do
  routes ← routes_in landmarks.switches landmarks.detectors landmarks.buffer_stops d
  points ← points_in landmarks.tracks d
  speeds ← speeds_in landmarks.tracks d
  Ok (record { routes = routes; points = points; speeds = speeds })

abbrev pub joined : FirstLists → Others → Infra
joined first others = record {
  tracks = first.landmarks.tracks;
  switches = first.landmarks.switches;
  detectors = first.landmarks.detectors;
  buffer_stops = first.landmarks.buffer_stops;
  signals = first.signals;
  routes = others.routes;
  points = others.points;
  speeds = others.speeds;
}

-- The lists of an object, in this order, each with the names of those before it.
abbrev pub lists_in : Data → Result Infra InfraFault
lists_in d = do
  first ← first_in d
  others ← others_in first.landmarks d
  Ok (joined first others)

abbrev pub object_of : Data → Result Infra InfraFault
object_of d =
    if is_some (as_object d) then lists_in d else Err (Kind (spot_of whole_file (codes "file")))

abbrev pub text_at : List ℕ → Result Infra InfraFault
text_at quoted = do
  d ← or_fault NotJson (data_of quoted)
  object_of d

-- What bytes read as, where `quoted` is their text with its numbers quoted. The size of
-- a file comes before all else.
abbrev pub infra_at : List ℕ → List ℕ → Result Infra InfraFault
infra_at bytes quoted =
    if nat_le (length bytes) MAX_NETWORK_FILE_BYTES then text_at quoted
    else Err (Limit what.File (pos (MAX_NETWORK_FILE_BYTES + 1)))

-- ---- inside

-- What a call returned is what is kept of a half of what a text reads as, unless memory was wanted.
abbrev pub KeepsRead : Half → Result Value InfraFault → Option Data → Type 0
KeepsRead half (Ok value) read = (all : Data) × (read ≡ Some all) × KeepsHalf half all (view value)
KeepsRead half (Err fault) read = (fault ≡ Memory → ⊥) → (fault ≡ NotJson) × (read ≡ None)

-- the first lists of a file's value
abbrev pub first_of : Data → Result FirstLists InfraFault
first_of d =
    if is_some (as_object d) then first_in d else Err (Kind (spot_of whole_file (codes "file")))

-- the first lists of a text, and those behind them
abbrev pub first_at : List ℕ → Result FirstLists InfraFault
first_at quoted = do
  d ← or_fault NotJson (data_of quoted)
  first_of d

abbrev pub others_at : Landmarks → List ℕ → Result Others InfraFault
others_at landmarks quoted = do
  d ← or_fault NotJson (data_of quoted)
  others_in landmarks d
