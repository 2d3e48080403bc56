-- Operational points.
use Rattle.rail_types.specs.InfraIds.{id_of_point, id_of_track}
use Rattle.std.specs.Prelude.{ℕ, List, [], map, codes, false, Result, Ok}
use Rattle.serde_json.specs.Data.{Data}
use Rattle.json_fields.specs.Places.{FilePlace, whole_file, element, item_of}
use Rattle.json_fields.specs.Reading.{◌>>=◌}
use Rattle.rail_types.specs.declared.infra_types.tracks.Track.{Track}
use Rattle.rail_types.specs.declared.infra_types.tracks.Part.{Part}
use Rattle.rail_types.specs.declared.infra_types.tracks.OperationalPoint.{OperationalPoint}
use Rattle.infra_fields.specs.declared.faults.InfraFault.{InfraFault}
use Rattle.infra_fields.specs.Fields.{object_at, new_id_at, number_at, rounded_at, list_at}
use Rattle.infra_fields.specs.Fields.{read_items, read_each}

abbrev pub part_in : FilePlace → List (List ℕ) → Data → Result Part InfraFault
part_in place tracks d = do
  is_object ← object_at place d
  track ← number_at place (codes "track") tracks d
  position ← rounded_at place (codes "position") false d
  Ok (record { track = track; position = position })

-- the part of that index
abbrev pub part_at : FilePlace → List (List ℕ) → ℕ → Data → Result Part InfraFault
part_at place tracks index d = part_in (item_of place (codes "parts") index) tracks d

abbrev pub parts_at : FilePlace → List (List ℕ) → Data → Result (List Part) InfraFault
parts_at place tracks d = do
  items ← list_at place (codes "parts") d
  read_items (part_at place tracks) [] items

abbrev pub point_in : FilePlace → List (List ℕ) → List (List ℕ) → Data
    → Result OperationalPoint InfraFault
point_in place tracks before d = do
  is_object ← object_at place d
  id ← new_id_at place before d
  parts ← parts_at place tracks d
  Ok (record { id = id; parts = parts })

-- the operational point of that index, behind those of these ids
abbrev pub point_at : List (List ℕ) → ℕ → List (List ℕ) → Data → Result OperationalPoint InfraFault
point_at tracks index before d =
    point_in (element (codes "operational_points") index) tracks before d

-- the operational points of a file
unfoldable pub points_in : List Track → Data → Result (List OperationalPoint) InfraFault
points_in tracks d = do
  items ← list_at whole_file (codes "operational_points") d
  read_each id_of_point (point_at (map id_of_track tracks)) [] items
