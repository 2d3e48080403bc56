-- A file reads as what is kept of its halves.
use Rattle.rail_types.specs.InfraIds.{id_of_placed, id_of_point, id_of_route, id_of_signal, id_of_speed, id_of_switch, id_of_track}
use Rattle.std.proofs.Common.{◌≡◌, ℕ, pos, List, [], ◌∷◌, ◌++◌, length, map, nat_le, Bool, true, false, if◌then◌else◌, codes, is_some, Option, Some, None, option_and_then, Result, Ok, Err, refl, ap, sym, ◌∙◌, subst, true≢false}
use Rattle.std.specs.List.{list_any}
use Rattle.std.specs.Result.{IsErrAnd}
use Rattle.serde_json.specs.Data.{Data}
use Rattle.serde_json.specs.Find.{as_object, get}
use Rattle.rail_types.specs.declared.infra_types.signals.Signal.{Signal}
use Rattle.rail_types.specs.declared.infra_types.switches.Switch.{Switch}
use Rattle.rail_types.specs.declared.infra_types.tracks.Placed.{Placed}
use Rattle.rail_types.specs.declared.infra_types.tracks.Track.{Track}
use Rattle.rail_types.specs.declared.limits.TheConstants.{MAX_OBJECTS}
use Rattle.json_fields.specs.Places.{FilePlace, whole_file, element, spot_of}
use Rattle.json_fields.specs.Reading.{◌>>=◌, or_fault}
use Rattle.json_fields.specs.Texts.{data_of}
use Rattle.json_fields.specs.declared.spots.Spot.{Spot}
use Rattle.infra_fields.specs.declared.faults.InfraFault.{InfraFault}
use Rattle.infra_fields.specs.declared.faults.InfraFault.TheVariants.{Kind, Limit, Memory, NotJson}
use Rattle.infra_fields.specs.declared.faults.What.TheVariants as what
use Rattle.infra_fields.specs.Fields.{Gives, elements_in, few, list_at, list_or_none, new_id_at, object_at, read_each}
use Rattle.infra_fields.specs.Kept.{is_in, is_list, is_read, BothOrNone, Each, Keeps, KeepsBy, KeepsHalf, KeepsObject}
use Rattle.infra_fields.specs.declared.file_values.halves.Half.{Half}
use Rattle.infra_fields.specs.declared.file_values.halves.Half.TheVariants.{First, Second}
use Rattle.railjson_read.specs.Objects.{track_in, track_at, tracks_in, switch_in, switch_at, switches_in, placed_in, placed_at, all_placed_in}
use Rattle.railjson_read.specs.Signals.{any_of, is_bal, is_block_signal, signal_in, signal_at, signals_in, some_bal_in}
use Rattle.railjson_read.specs.Routes.{route_in, route_at, routes_in}
use Rattle.railjson_read.specs.Points.{point_in, point_at, points_in}
use Rattle.railjson_read.specs.Speeds.{speed_in, speed_at, speeds_in}
use Rattle.railjson_read.specs.Files.{first_at, first_in, first_of, joined, landmarks_in, lists_in, object_of, others_at, others_in, text_at}
use Rattle.rail_types.specs.declared.infra_types.infras.Infra.{Infra}
use Rattle.railjson_read.specs.declared.wholes.FirstLists.{FirstLists}
use Rattle.railjson_read.specs.declared.wholes.Landmarks.{Landmarks}
use Rattle.railjson_read.specs.declared.wholes.Others.{Others}

-- ---- objects

abbrev SameFields : Data → Data → Type 0
SameFields = Keeps 2

kept_by : (Stands : Data → Data → Type 0) (b : Bool) (all kept : Option Data) → b ≡ false → KeepsBy Stands b all kept → kept ≡ all
kept_by Stands true all kept other h = absurd (true≢false other)
kept_by Stands false all kept other h = h

-- a field that is no list of objects
kept_field : (Stands : Data → Data → Type 0) (d e : Data) → KeepsObject is_read is_list Stands d e → (key : List ℕ) → is_read key ≡ true → is_list key ≡ false → get key e ≡ get key d
kept_field Stands d e h key read other = kept_by Stands (is_list key) (get key d) (get key e) other (h.fields key read)

module _ (d e : Data) (h : SameFields d e) where
  field_same : (key : List ℕ) → is_read key ≡ true → is_list key ≡ false → get key e ≡ get key d
  field_same key read other = kept_field (Keeps 1) d e h key read other

  track_same : (place : FilePlace) (before : List (List ℕ)) → track_in place before e ≡ track_in place before d
  track_same place before = rw (h.kind, field_same (codes "id") refl refl, field_same (codes "length") refl refl) refl

  placed_same : (place : FilePlace) (tracks before : List (List ℕ)) → placed_in place tracks before e ≡ placed_in place tracks before d
  placed_same place tracks before = rw (h.kind, field_same (codes "id") refl refl, field_same (codes "track") refl refl, field_same (codes "position") refl refl) refl

  switch_same : (place : FilePlace) (tracks before : List (List ℕ)) → switch_in place tracks before e ≡ switch_in place tracks before d
  switch_same place tracks before = rw (h.kind, field_same (codes "id") refl refl, field_same (codes "switch_type") refl refl, field_same (codes "ports") refl refl) refl

  route_same : (place : FilePlace) (switches detectors stops before : List (List ℕ)) → route_in place switches detectors stops before e ≡ route_in place switches detectors stops before d
  route_same place switches detectors stops before =
      rw (h.kind, field_same (codes "id") refl refl, field_same (codes "entry_point") refl refl, field_same (codes "entry_point_direction") refl refl, field_same (codes "exit_point") refl refl, field_same (codes "switches_directions") refl refl, field_same (codes "release_detectors") refl refl) refl

  point_same : (place : FilePlace) (tracks before : List (List ℕ)) → point_in place tracks before e ≡ point_in place tracks before d
  point_same place tracks before = rw (h.kind, field_same (codes "id") refl refl, field_same (codes "parts") refl refl) refl

  speed_same : (place : FilePlace) (tracks : List Track) (before : List (List ℕ)) → speed_in place tracks before e ≡ speed_in place tracks before d
  speed_same place tracks before = rw (h.kind, field_same (codes "id") refl refl, field_same (codes "speed_limit") refl refl, field_same (codes "track_ranges") refl refl) refl

-- ---- signals

bal_same : (d e : Data) → Keeps 1 d e → is_bal e ≡ is_bal d
bal_same d e h = rw (kept_field (Keeps 0) d e h (codes "signaling_system") refl refl) refl

any_same : (ds es : List Data) → Each (Keeps 1) ds es → list_any is_bal es ≡ list_any is_bal ds
any_same [] [] h = refl
any_same [] (e ∷ es) h = absurd h
any_same (d ∷ ds) [] h = absurd h
any_same (d ∷ ds) (e ∷ es) h = rw (bal_same d e h.0, any_same ds es h.1) refl

any_of_same : (all kept : Option (List Data)) → BothOrNone (Each (Keeps 1)) all kept → any_of kept ≡ any_of all
any_of_same None None h = refl
any_of_same None (Some es) h = absurd h
any_of_same (Some ds) None h = absurd h
any_of_same (Some ds) (Some es) h = any_same ds es h

logical_same : (all kept : Option Data) → KeepsBy (Keeps 1) true all kept → any_of (option_and_then elements_in kept) ≡ any_of (option_and_then elements_in all)
logical_same None None h = refl
logical_same None (Some e) h = absurd h
logical_same (Some d) None h = absurd h
logical_same (Some d) (Some e) h = any_of_same (elements_in d) (elements_in e) h

block_same : (d e : Data) → SameFields d e → is_block_signal e ≡ is_block_signal d
block_same d e h = logical_same (get (codes "logical_signals") d) (get (codes "logical_signals") e) (h.fields (codes "logical_signals") refl)

abbrev signal_by : FilePlace → List (List ℕ) → List (List ℕ) → Data → Bool → Result Signal InfraFault
signal_by place tracks before d is_block = do
  is_object ← object_at place d
  id ← new_id_at place before d
  bal ← if is_block then some_bal_in place tracks d else Ok None
  Ok (record { id = id; bal = bal })

signal_same : (d e : Data) → SameFields d e → (place : FilePlace) (tracks before : List (List ℕ)) → signal_in place tracks before e ≡ signal_in place tracks before d
signal_same d e h place tracks before =
    ap (signal_by place tracks before e) (block_same d e h)
    ∙ rw (h.kind, field_same d e h (codes "id") refl refl, field_same d e h (codes "track") refl refl, field_same d e h (codes "position") refl refl, field_same d e h (codes "direction") refl refl, field_same d e h (codes "sight_distance") refl refl) refl

-- ---- lists

then_same : {X Y : Type 0} (f g : X → Result Y InfraFault) (r : Result X InfraFault) → ((x : X) → f x ≡ g x) → (r >>= f) ≡ (r >>= g)
then_same f g (Ok x) h = h x
then_same f g (Err e) h = refl

each_same : {X : Type 0} (id : X → List ℕ) (one : ℕ → List (List ℕ) → Data → Result X InfraFault)
    → ((d e : Data) → SameFields d e → (index : ℕ) (before : List (List ℕ)) → one index before e ≡ one index before d) → (before : List X) (ds es : List Data) → Each SameFields ds es
    → read_each id one before es ≡ read_each id one before ds
each_same id one same before [] [] h = refl
each_same id one same before [] (e ∷ es) h = absurd h
each_same id one same before (d ∷ ds) [] h = absurd h
each_same id one same before (d ∷ ds) (e ∷ es) h =
    rw (same d e h.0 (length before) (map id before)) (then_same (λ it. read_each id one (before ++ it ∷ []) es) (λ it. read_each id one (before ++ it ∷ []) ds) (one (length before) (map id before) d) (λ it. each_same id one same (before ++ it ∷ []) ds es h.1))

as_many : (ds es : List Data) → Each SameFields ds es → length es ≡ length ds
as_many [] [] h = refl
as_many [] (e ∷ es) h = absurd h
as_many (d ∷ ds) [] h = absurd h
as_many (d ∷ ds) (e ∷ es) h = rw (as_many ds es h.1) refl

module _ {X : Type 0} (f : List Data → Result X InfraFault) (same : (ds es : List Data) → Each SameFields ds es → f es ≡ f ds) where
  by_count : (b : Bool) (count : InfraFault) (ds es : List Data) → Each SameFields ds es → ((if b then Ok es else Err count) >>= f) ≡ ((if b then Ok ds else Err count) >>= f)
  by_count true count ds es h = same ds es h
  by_count false count ds es h = refl

  few_same : (ds es : List Data) → Each SameFields ds es → (few es >>= f) ≡ (few ds >>= f)
  few_same ds es h = rw (as_many ds es h) (by_count (nat_le (length ds) MAX_OBJECTS) (Limit what.List (pos (length ds))) ds es h)

  elements_same : (spot : Spot) (all kept : Option (List Data)) → BothOrNone (Each SameFields) all kept → ((or_fault (Kind spot) kept >>= few) >>= f) ≡ ((or_fault (Kind spot) all >>= few) >>= f)
  elements_same spot None None h = refl
  elements_same spot None (Some es) h = absurd h
  elements_same spot (Some ds) None h = absurd h
  elements_same spot (Some ds) (Some es) h = few_same ds es h

  found_same : (spot : Spot) (all kept : Option Data) → KeepsBy SameFields true all kept → (list_or_none spot kept >>= f) ≡ (list_or_none spot all >>= f)
  found_same spot None None h = refl
  found_same spot None (Some e) h = absurd h
  found_same spot (Some d) None h = absurd h
  found_same spot (Some d) (Some e) h = elements_same spot (elements_in d) (elements_in e) h

  list_same : (half : Half) (name : List ℕ) → is_in half name ≡ true → (d e : Data) → KeepsHalf half d e → (list_at whole_file name e >>= f) ≡ (list_at whole_file name d >>= f)
  list_same half name its d e h = found_same (spot_of whole_file name) (get name d) (get name e) (subst (λ b. KeepsBy SameFields b (get name d) (get name e)) its (h.fields name its))

-- ---- the first lists

module _ (d e : Data) (h : KeepsHalf First d e) where
  tracks_same : tracks_in e ≡ tracks_in d
  unfolding tracks_in
  tracks_same = list_same (read_each id_of_track track_at []) (each_same id_of_track track_at (λ x y k index before. track_same x y k (element (codes "track_sections") index) before) []) First (codes "track_sections") refl d e h

  switches_same : (tracks : List Track) → switches_in tracks e ≡ switches_in tracks d
  unfolding switches_in
  switches_same tracks =
      let one = switch_at (map id_of_track tracks) in
      list_same (read_each id_of_switch one []) (each_same id_of_switch one (λ x y k index before. switch_same x y k (element (codes "switches") index) (map id_of_track tracks) before) []) First (codes "switches") refl d e h

  all_placed_same : (name : List ℕ) → is_in First name ≡ true → (tracks : List Track) → all_placed_in name tracks e ≡ all_placed_in name tracks d
  unfolding all_placed_in
  all_placed_same name its tracks =
      let one = placed_at name (map id_of_track tracks) in
      list_same (read_each id_of_placed one []) (each_same id_of_placed one (λ x y k index before. placed_same x y k (element name index) (map id_of_track tracks) before) []) First name its d e h

  signals_same : (tracks : List Track) → signals_in tracks e ≡ signals_in tracks d
  unfolding signals_in
  signals_same tracks =
      let one = signal_at (map id_of_track tracks) in
      list_same (read_each id_of_signal one []) (each_same id_of_signal one (λ x y k index before. signal_same x y k (element (codes "signals") index) (map id_of_track tracks) before) []) First (codes "signals") refl d e h

  landmarks_same : landmarks_in e ≡ landmarks_in d
  unfolding landmarks_in
  landmarks_same =
      rw tracks_same (then_same _ _ (tracks_in d) (λ tracks.
      rw (switches_same tracks) (then_same _ _ (switches_in tracks d) (λ switches.
      rw (all_placed_same (codes "detectors") refl tracks) (then_same _ _ (all_placed_in (codes "detectors") tracks d) (λ detectors.
      rw (all_placed_same (codes "buffer_stops") refl tracks) refl))))))

  first_same : first_in e ≡ first_in d
  unfolding first_in
  first_same = rw landmarks_same (then_same _ _ (landmarks_in d) (λ landmarks. rw (signals_same landmarks.tracks) refl))

  -- what the first lists of a text read as is what is kept of it reads as
  pub first_text : (quoted : List ℕ) → data_of quoted ≡ Some d → first_at quoted ≡ first_of e
  first_text quoted read = rw (read, h.kind, first_same) refl

-- ---- the lists behind them

module _ (d e : Data) (h : KeepsHalf Second d e) where
  routes_same : (switches : List Switch) (detectors stops : List Placed) → routes_in switches detectors stops e ≡ routes_in switches detectors stops d
  unfolding routes_in
  routes_same switches detectors stops =
      let one = route_at (map id_of_switch switches) (map id_of_placed detectors) (map id_of_placed stops) in
      list_same (read_each id_of_route one []) (each_same id_of_route one (λ x y k index before. route_same x y k (element (codes "routes") index) (map id_of_switch switches) (map id_of_placed detectors) (map id_of_placed stops) before) []) Second (codes "routes") refl d e h

  points_same : (tracks : List Track) → points_in tracks e ≡ points_in tracks d
  unfolding points_in
  points_same tracks =
      let one = point_at (map id_of_track tracks) in
      list_same (read_each id_of_point one []) (each_same id_of_point one (λ x y k index before. point_same x y k (element (codes "operational_points") index) (map id_of_track tracks) before) []) Second (codes "operational_points") refl d e h

  speeds_same : (tracks : List Track) → speeds_in tracks e ≡ speeds_in tracks d
  unfolding speeds_in
  speeds_same tracks = list_same (read_each id_of_speed (speed_at tracks) []) (each_same id_of_speed (speed_at tracks) (λ x y k index before. speed_same x y k (element (codes "speed_sections") index) tracks before) []) Second (codes "speed_sections") refl d e h

  others_same : (landmarks : Landmarks) → others_in landmarks e ≡ others_in landmarks d
  unfolding others_in
  others_same landmarks =
      rw (routes_same landmarks.switches landmarks.detectors landmarks.buffer_stops) (then_same _ _ (routes_in landmarks.switches landmarks.detectors landmarks.buffer_stops d) (λ routes.
      rw (points_same landmarks.tracks) (then_same _ _ (points_in landmarks.tracks d) (λ points.
      rw (speeds_same landmarks.tracks) refl))))

  pub others_text : (landmarks : Landmarks) (quoted : List ℕ) → data_of quoted ≡ Some d → others_at landmarks quoted ≡ others_in landmarks e
  others_text landmarks quoted read = rw (read, others_same landmarks) refl

-- ---- a text that has no value

pub first_refused : (quoted : List ℕ) → data_of quoted ≡ None → first_at quoted ≡ Err NotJson
first_refused quoted none = rw none refl

pub others_refused : (landmarks : Landmarks) (quoted : List ℕ) → data_of quoted ≡ None → others_at landmarks quoted ≡ Err NotJson
others_refused landmarks quoted none = rw none refl

-- ---- a text by its halves

abbrev with_others : Result FirstLists InfraFault → (FirstLists → Result Others InfraFault) → Result Infra InfraFault
with_others lists behind = lists >>= λ first. behind first >>= λ others. Ok (joined first others)

by_kind : (d : Data) (b : Bool) (kind : InfraFault) → (if b then lists_in d else Err kind) ≡ with_others (if b then first_in d else Err kind) (λ first. others_in first.landmarks d)
by_kind d true kind = refl
by_kind d false kind = refl

by_value : (found : Option Data) → (or_fault NotJson found >>= object_of) ≡ with_others (or_fault NotJson found >>= first_of) (λ first. or_fault NotJson found >>= others_in first.landmarks)
by_value None = refl
by_value (Some d) = by_kind d (is_some (as_object d)) (Kind (spot_of whole_file (codes "file")))

pub by_halves : (quoted : List ℕ) → text_at quoted ≡ with_others (first_at quoted) (λ first. others_at first.landmarks quoted)
by_halves quoted = by_value (data_of quoted)

pub behind_first : (quoted : List ℕ) (first : FirstLists) → first_at quoted ≡ Ok first → text_at quoted ≡ (others_at first.landmarks quoted >>= λ others. Ok (joined first others))
behind_first quoted first e = by_halves quoted ∙ ap (λ lists. with_others lists (λ first. others_at first.landmarks quoted)) e

-- a text that has no value is not read
pub no_text : (r : Result Infra InfraFault) (fault : InfraFault) (quoted : List ℕ) → IsErrAnd r (λ (told : InfraFault). told ≡ fault) → ((fault ≡ Memory → ⊥) → (fault ≡ NotJson) × (data_of quoted ≡ None)) → Gives (λ (infra : Infra). infra) r (text_at quoted)
no_text (Ok x) fault quoted is why = absurd is
no_text (Err told) fault quoted is why = λ some.
    let none = why (λ memory. some (is ∙ memory)) in
    rw none.1 (ap Err (sym (is ∙ none.0)))

-- what is made of what was read is what is made of the reading
pub made : {X Y : Type 0} (f : X → Y) (r m : Result X InfraFault) → Gives (λ x. x) r m → Gives (λ y. y) (r >>= λ x. Ok (f x)) (m >>= λ x. Ok (f x))
made f (Ok x) m h = rw h refl
made f (Err e) m h = λ n. rw (h n) refl
