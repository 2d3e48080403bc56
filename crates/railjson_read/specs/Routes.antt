-- Routes.
use Rattle.rail_types.specs.InfraIds.{id_of_placed, id_of_route, id_of_switch}
use Rattle.std.specs.Prelude.{ℕ, List, [], ◌++◌, map, codes, if◌then◌else◌, Option}
use Rattle.std.specs.Prelude.{Some, None, Result, Ok, Err}
use Rattle.std.specs.BTreeMap.{insert_entry}
use Rattle.std.specs.Ordering.{nat_cmp}
use Rattle.std.specs.Str.{bytes_eq}
use Rattle.serde_json.specs.Data.{Data, Members, no_members, member}
use Rattle.serde_json.specs.Find.{get, as_object}
use Rattle.json_fields.specs.Escapes.{escaped}
use Rattle.json_fields.specs.Places.{FilePlace, whole_file, element, part_of, item_of, spot_of}
use Rattle.json_fields.specs.Reading.{◌>>=◌, or_fault}
use Rattle.rail_types.specs.declared.infra_types.routes.Route.{Route}
use Rattle.rail_types.specs.declared.infra_types.routes.RoutePoint.{RoutePoint}
use Rattle.rail_types.specs.declared.infra_types.routes.RoutePoint.TheVariants.{Detector}
use Rattle.rail_types.specs.declared.infra_types.routes.RoutePoint.TheVariants.{BufferStop}
use Rattle.rail_types.specs.declared.infra_types.switches.Group.{Group}
use Rattle.rail_types.specs.declared.infra_types.switches.Switch.{Switch}
use Rattle.rail_types.specs.declared.infra_types.switches.Way.{Way}
use Rattle.rail_types.specs.declared.infra_types.tracks.Placed.{Placed}
use Rattle.infra_fields.specs.declared.faults.InfraFault.{InfraFault}
use Rattle.infra_fields.specs.declared.faults.InfraFault.TheVariants.{Kind}
use Rattle.infra_fields.specs.Fields.{object_at, found_at, text_of, text_at, limited_id, new_id_at}
use Rattle.infra_fields.specs.Fields.{known_number, number_at, list_at, read_items, read_each}
use Rattle.infra_fields.specs.Words.{direction_at, group_named}

-- ---- entry and exit

abbrev pub detector_in : FilePlace → List (List ℕ) → Data → Result RoutePoint InfraFault
detector_in place detectors d = do
  number ← number_at place (codes "id") detectors d
  Ok (Detector number)

abbrev pub stop_in : FilePlace → List (List ℕ) → Data → Result RoutePoint InfraFault
stop_in place stops d = do
  number ← number_at place (codes "id") stops d
  Ok (BufferStop number)

-- a detector or a buffer stop, by the word of its type
abbrev pub point_of : FilePlace → List (List ℕ) → List (List ℕ) → Data → List ℕ
    → Result RoutePoint InfraFault
point_of place detectors stops d word =
    if bytes_eq word (codes "Detector") then detector_in place detectors d
    else if bytes_eq word (codes "BufferStop") then stop_in place stops d
    else Err (Kind (spot_of place (codes "type")))

abbrev pub point_in : FilePlace → List (List ℕ) → List (List ℕ) → Data
    → Result RoutePoint InfraFault
point_in place detectors stops d = do
  is_object ← object_at place d
  word ← text_at place (codes "type") d
  point_of place detectors stops d word

abbrev pub point_at : FilePlace → List ℕ → List (List ℕ) → List (List ℕ) → Data
    → Result RoutePoint InfraFault
point_at place field detectors stops d = do
  found ← found_at place field d
  point_in (part_of place field) detectors stops found

-- ---- ways

-- `switches_directions.PX`
abbrev pub way_field : List ℕ → List ℕ
way_field key = codes "switches_directions." ++ escaped key

-- the group in which a route crosses the switch with that id
abbrev pub way_in : FilePlace → List (List ℕ) → List ℕ → Data → Result Way InfraFault
way_in place switches key d = do
  word ← text_of place (way_field key) d
  id ← limited_id key
  number ← known_number place id (way_field key) switches
  Ok (record { switch = number; group = group_named word })

-- the groups by ascending switch number, those of the members put among those before
abbrev pub read_ways : FilePlace → List (List ℕ) → List (ℕ × Group) → Members
    → Result (List (ℕ × Group)) InfraFault
read_ways place switches before no_members = Ok before
read_ways place switches before (member key d members) = do
  way ← way_in place switches key d
  read_ways place switches (insert_entry nat_cmp before way.switch way.group) members

abbrev pub way_of : ℕ × Group → Way
way_of entry = record { switch = entry.0; group = entry.1 }

abbrev pub ways_of : List (ℕ × Group) → List Way
ways_of entries = map way_of entries

abbrev pub ways_found : FilePlace → List (List ℕ) → Data → Result (List Way) InfraFault
ways_found place switches d = do
  members ← or_fault (Kind (spot_of place (codes "switches_directions"))) (as_object d)
  entries ← read_ways place switches [] members
  Ok (ways_of entries)

abbrev pub ways_or_none : FilePlace → List (List ℕ) → Option Data → Result (List Way) InfraFault
ways_or_none place switches None = Ok []
ways_or_none place switches (Some d) = ways_found place switches d

abbrev pub ways_at : FilePlace → List (List ℕ) → Data → Result (List Way) InfraFault
ways_at place switches d = ways_or_none place switches (get (codes "switches_directions") d)

-- ---- release detectors

abbrev pub release_in : FilePlace → List (List ℕ) → Data → Result ℕ InfraFault
release_in place detectors d = do
  word ← text_of place [] d
  id ← limited_id word
  known_number place id [] detectors

-- the release detector of that index
abbrev pub release_at : FilePlace → List (List ℕ) → ℕ → Data → Result ℕ InfraFault
release_at place detectors index d =
    release_in (item_of place (codes "release_detectors") index) detectors d

abbrev pub releases_at : FilePlace → List (List ℕ) → Data → Result (List ℕ) InfraFault
releases_at place detectors d = do
  items ← list_at place (codes "release_detectors") d
  read_items (release_at place detectors) [] items

-- ---- routes

-- all of a route but its id
abbrev pub route_of : FilePlace → List (List ℕ) → List (List ℕ) → List (List ℕ) → List ℕ → Data
    → Result Route InfraFault
route_of place switches detectors stops id d = do
  entry ← point_at place (codes "entry_point") detectors stops d
  direction ← direction_at place (codes "entry_point_direction") d
  last ← point_at place (codes "exit_point") detectors stops d
  ways ← ways_at place switches d
  releases ← releases_at place detectors d
  Ok (record {
    id = id;
    entry = entry;
    direction = direction;
    exit = last;
    ways = ways;
    releases = releases;
  })

abbrev pub route_in : FilePlace → List (List ℕ) → List (List ℕ) → List (List ℕ) → List (List ℕ)
    → Data → Result Route InfraFault
route_in place switches detectors stops before d = do
  is_object ← object_at place d
  id ← new_id_at place before d
  route_of place switches detectors stops id d

-- the route of that index, behind those of these ids
abbrev pub route_at : List (List ℕ) → List (List ℕ) → List (List ℕ) → ℕ → List (List ℕ) → Data
    → Result Route InfraFault
route_at switches detectors stops index before d =
    route_in (element (codes "routes") index) switches detectors stops before d

-- the routes of a file
unfoldable pub routes_in : List Switch → List Placed → List Placed → Data
    → Result (List Route) InfraFault
routes_in switches detectors stops d = do
  items ← list_at whole_file (codes "routes") d
  read_each id_of_route (route_at (map id_of_switch switches) (map id_of_placed detectors)
      (map id_of_placed stops)) [] items
