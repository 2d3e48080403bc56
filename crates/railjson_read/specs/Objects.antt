-- Objects of the lists of tracks, switches, detectors and buffer stops.
use Rattle.rail_types.specs.InfraIds.{id_of_placed, id_of_switch, id_of_track}
use Rattle.std.specs.Prelude.{ℕ, List, [], ◌∷◌, ◌++◌, map, codes, Result, Ok}
use Rattle.serde_json.specs.Data.{Data}
use Rattle.rail_types.specs.declared.limits.TheConstants.{MAX_TRACK_LENGTH_M}
use Rattle.json_fields.specs.Places.{FilePlace, whole_file, element, part_of}
use Rattle.json_fields.specs.Reading.{◌>>=◌, or_fault}
use Rattle.rail_types.specs.declared.infra_types.ends.TrackEnd.{TrackEnd}
use Rattle.rail_types.specs.declared.infra_types.tracks.Track.{Track}
use Rattle.rail_types.specs.declared.infra_types.tracks.Placed.{Placed}
use Rattle.rail_types.specs.declared.infra_types.switches.Switch.{Switch}
use Rattle.rail_types.specs.declared.infra_types.switches.SwitchKind.{SwitchKind}
use Rattle.infra_fields.specs.declared.words.Port.{Port}
use Rattle.infra_fields.specs.declared.faults.InfraFault.{InfraFault}
use Rattle.infra_fields.specs.declared.faults.InfraFault.TheVariants.{SwitchType}
use Rattle.infra_fields.specs.declared.faults.What.TheVariants as what
use Rattle.infra_fields.specs.Fields.{object_at, found_at, text_at, new_id_at, number_at, metres_at}
use Rattle.infra_fields.specs.Fields.{within, list_at, read_each}
use Rattle.infra_fields.specs.Words.{kind_named, end_at, ports_of, port_name, port_within}

-- ---- tracks, detectors, buffer stops

abbrev pub length_at : FilePlace → Data → Result ℕ InfraFault
length_at place d = do
  metres ← metres_at place (codes "length") d
  within 1 MAX_TRACK_LENGTH_M what.Length metres

abbrev pub track_in : FilePlace → List (List ℕ) → Data → Result Track InfraFault
track_in place before d = do
  is_object ← object_at place d
  id ← new_id_at place before d
  metres ← length_at place d
  Ok (record { id = id; length = metres })

-- the track of that index, behind those of these ids
abbrev pub track_at : ℕ → List (List ℕ) → Data → Result Track InfraFault
track_at index before d = track_in (element (codes "track_sections") index) before d

abbrev pub placed_in : FilePlace → List (List ℕ) → List (List ℕ) → Data → Result Placed InfraFault
placed_in place tracks before d = do
  is_object ← object_at place d
  id ← new_id_at place before d
  track ← number_at place (codes "track") tracks d
  position ← metres_at place (codes "position") d
  Ok (record { id = id; track = track; position = position })

-- the detector or buffer stop of the list of that name of that index, behind those of these ids
abbrev pub placed_at : List ℕ → List (List ℕ) → ℕ → List (List ℕ) → Data → Result Placed InfraFault
placed_at name tracks index before d = placed_in (element name index) tracks before d

-- ---- switches

abbrev pub kind_at : FilePlace → List ℕ → Data → Result SwitchKind InfraFault
kind_at place id d = do
  word ← text_at place (codes "switch_type") d
  or_fault (SwitchType id) (kind_named word)

abbrev pub port_in : FilePlace → List (List ℕ) → Data → Result TrackEnd InfraFault
port_in place tracks d = do
  is_object ← object_at place d
  side ← end_at place (codes "endpoint") d
  track ← number_at place (codes "track") tracks d
  Ok (record { track = track; end = side })

abbrev pub port_at : FilePlace → List (List ℕ) → Data → Port → Result TrackEnd InfraFault
port_at place tracks d port = do
  found ← found_at (part_of place (codes "ports")) (port_name port) d
  port_in (part_of place (port_within port)) tracks found

abbrev pub read_ports : FilePlace → List (List ℕ) → Data → List TrackEnd → List Port
    → Result (List TrackEnd) InfraFault
read_ports place tracks d before [] = Ok before
read_ports place tracks d before (port ∷ ports) = do
  joined ← port_at place tracks d port
  read_ports place tracks d (before ++ joined ∷ []) ports

-- the track ends at the ports of that kind of switch
abbrev pub ports_at : FilePlace → List (List ℕ) → SwitchKind → Data
    → Result (List TrackEnd) InfraFault
ports_at place tracks kind d = do
  found ← found_at place (codes "ports") d
  is_object ← object_at (part_of place (codes "ports")) found
  read_ports place tracks found [] (ports_of kind)

abbrev pub switch_in : FilePlace → List (List ℕ) → List (List ℕ) → Data → Result Switch InfraFault
switch_in place tracks before d = do
  is_object ← object_at place d
  id ← new_id_at place before d
  kind ← kind_at place id d
  ports ← ports_at place tracks kind d
  Ok (record { id = id; kind = kind; ports = ports })

-- the switch of that index, behind those of these ids
abbrev pub switch_at : List (List ℕ) → ℕ → List (List ℕ) → Data → Result Switch InfraFault
switch_at tracks index before d = switch_in (element (codes "switches") index) tracks before d

-- ---- whole lists

-- the tracks of a file
unfoldable pub tracks_in : Data → Result (List Track) InfraFault
tracks_in d = do
  items ← list_at whole_file (codes "track_sections") d
  read_each id_of_track track_at [] items

-- the switches of a file
unfoldable pub switches_in : List Track → Data → Result (List Switch) InfraFault
switches_in tracks d = do
  items ← list_at whole_file (codes "switches") d
  read_each id_of_switch (switch_at (map id_of_track tracks)) [] items

-- the detectors or the buffer stops of a file
unfoldable pub all_placed_in : List ℕ → List Track → Data → Result (List Placed) InfraFault
all_placed_in name tracks d = do
  items ← list_at whole_file name d
  read_each id_of_placed (placed_at name (map id_of_track tracks)) [] items
