-- Speed sections.
use Rattle.rail_types.specs.InfraIds.{id_of_speed, id_of_track}
use Rattle.std.specs.Prelude.{ℕ, pos, min, List, [], map, codes, true, false}
use Rattle.std.specs.Prelude.{if◌then◌else◌, nat_eq, is_some, slice_index_or, Option, Some, None}
use Rattle.std.specs.Prelude.{Result, Ok, Err}
use Rattle.serde_json.specs.Data.{Data}
use Rattle.serde_json.specs.Find.{get, as_null}
use Rattle.rail_types.specs.declared.limits.TheConstants.{MAX_SPEED_MM_S}
use Rattle.json_fields.specs.Numbers.{scaled_value}
use Rattle.json_fields.specs.Places.{FilePlace, whole_file, element, item_of, spot_of}
use Rattle.json_fields.specs.Reading.{◌>>=◌}
use Rattle.rail_types.specs.declared.infra_types.tracks.Track.{Track}
use Rattle.rail_types.specs.declared.infra_types.tracks.Range.{Range}
use Rattle.rail_types.specs.declared.infra_types.tracks.SpeedSection.{SpeedSection}
use Rattle.infra_fields.specs.declared.faults.InfraFault.{InfraFault}
use Rattle.infra_fields.specs.declared.faults.InfraFault.TheVariants.{Limit}
use Rattle.infra_fields.specs.declared.faults.What.TheVariants as what
use Rattle.infra_fields.specs.Fields.{object_at, new_id_at, number_at, number_read, natural}
use Rattle.infra_fields.specs.Fields.{rounded_at, list_at, read_items, read_each}
use Rattle.rail_types.specs.Infras.{lengths_of}
use Rattle.infra_fields.specs.Words.{applies_at}

-- a limit in millimetres a second: 0 is none, and a greater one counts as the greatest speed
abbrev pub counted : ℕ → Result ℕ InfraFault
counted mm_s =
    if nat_eq mm_s 0 then Err (Limit what.Speed (pos 0)) else Ok (min mm_s MAX_SPEED_MM_S)

-- metres a second as whole millimetres a second, rounded down
abbrev pub mm_s_at : FilePlace → Data → Result ℕ InfraFault
mm_s_at place d = do
  number ← number_read (spot_of place (codes "speed_limit")) d (scaled_value d false true)
  mm_s ← natural (spot_of place (codes "speed_limit")) number
  counted mm_s

abbrev pub some_mm_s_at : FilePlace → Data → Result (Option ℕ) InfraFault
some_mm_s_at place d = do
  mm_s ← mm_s_at place d
  Ok (Some mm_s)

abbrev pub limit_found : FilePlace → Option Data → Result (Option ℕ) InfraFault
limit_found place None = Ok None
limit_found place (Some d) = if is_some (as_null d) then Ok None else some_mm_s_at place d

-- absent or null, there is no limit
abbrev pub limit_at : FilePlace → Data → Result (Option ℕ) InfraFault
limit_at place d = limit_found place (get (codes "speed_limit") d)

-- a position, or the end of its track where that is nearer
abbrev pub clipped : ℕ → ℕ → ℕ
clipped metres length_m = min metres length_m

abbrev pub range_in : FilePlace → List Track → Data → Result Range InfraFault
range_in place tracks d = do
  is_object ← object_at place d
  track ← number_at place (codes "track") (map id_of_track tracks) d
  first ← rounded_at place (codes "begin") false d
  last ← rounded_at place (codes "end") true d
  applies ← applies_at place (codes "applicable_directions") d
  Ok (record {
    track = track;
    begin = clipped first (slice_index_or (lengths_of tracks) track 0);
    end = clipped last (slice_index_or (lengths_of tracks) track 0);
    applies = applies;
  })

-- the range of that index
abbrev pub range_at : FilePlace → List Track → ℕ → Data → Result Range InfraFault
range_at place tracks index d = range_in (item_of place (codes "track_ranges") index) tracks d

abbrev pub ranges_at : FilePlace → List Track → Data → Result (List Range) InfraFault
ranges_at place tracks d = do
  items ← list_at place (codes "track_ranges") d
  read_items (range_at place tracks) [] items

abbrev pub speed_in : FilePlace → List Track → List (List ℕ) → Data → Result SpeedSection InfraFault
speed_in place tracks before d = do
  is_object ← object_at place d
  id ← new_id_at place before d
  limit ← limit_at place d
  ranges ← ranges_at place tracks d
  Ok (record { id = id; limit = limit; ranges = ranges })

-- the speed section of that index, behind those of these ids
abbrev pub speed_at : List Track → ℕ → List (List ℕ) → Data → Result SpeedSection InfraFault
speed_at tracks index before d = speed_in (element (codes "speed_sections") index) tracks before d

-- the speed sections of a file
unfoldable pub speeds_in : List Track → Data → Result (List SpeedSection) InfraFault
speeds_in tracks d = do
  items ← list_at whole_file (codes "speed_sections") d
  read_each id_of_speed (speed_at tracks) [] items
