-- What is kept of a file's value: the lists of one of its halves, and of their objects, and of
-- those of lists in them, the members at keys that are read.
use Rattle.std.specs.Prelude.{◌≡◌, ℕ, zero, suc, List, [], ◌∷◌, codes, Bool, true, false, ◌||◌}
use Rattle.std.specs.Prelude.{is_some, Option, Some, None, Result, Ok, Err}
use Rattle.std.specs.Str.{bytes_eq}
use Rattle.json.specs.Token.{Token}
use Rattle.serde_json.specs.Data.{Data, Members, put}
use Rattle.serde_json.specs.Find.{get, get_member, as_object}
use Rattle.serde_json.specs.View.{view}
use Rattle.serde_json.specs.declared.value.Value.{Value}
use Rattle.json_fields.specs.declared.texts.Unread.{Unread}
use Rattle.json_fields.specs.declared.texts.Unread.TheVariants.{NotJson, Memory}
use Rattle.infra_fields.specs.Fields.{elements_in}
use Rattle.infra_fields.specs.declared.file_values.halves.Half.{Half}
use Rattle.infra_fields.specs.declared.file_values.halves.Half.TheVariants.{First, Second}

-- ---- keys that are read

-- keys of a file's first lists
abbrev pub is_first : List ℕ → Bool
is_first key =
    bytes_eq key (codes "track_sections") || bytes_eq key (codes "switches")
    || bytes_eq key (codes "detectors") || bytes_eq key (codes "buffer_stops")
    || bytes_eq key (codes "signals")

-- keys of the lists behind those
abbrev pub is_second : List ℕ → Bool
is_second key =
    bytes_eq key (codes "routes") || bytes_eq key (codes "operational_points")
    || bytes_eq key (codes "speed_sections")

-- whether a half of a file has the list at this key
abbrev pub is_in : Half → List ℕ → Bool
is_in First key = is_first key
is_in Second key = is_second key

-- the key of a list of objects in an object
abbrev pub is_list : List ℕ → Bool
is_list key = bytes_eq key (codes "logical_signals")

-- keys of objects on tracks, and of switches
abbrev pub is_object_key : List ℕ → Bool
is_object_key key =
    bytes_eq key (codes "id") || bytes_eq key (codes "track") || bytes_eq key (codes "position")
    || bytes_eq key (codes "direction") || bytes_eq key (codes "sight_distance")
    || bytes_eq key (codes "length") || bytes_eq key (codes "switch_type")
    || bytes_eq key (codes "ports") || bytes_eq key (codes "parts")

-- keys of routes, speed sections and logical signals
abbrev pub is_route_key : List ℕ → Bool
is_route_key key =
    bytes_eq key (codes "entry_point") || bytes_eq key (codes "entry_point_direction")
    || bytes_eq key (codes "exit_point") || bytes_eq key (codes "switches_directions")
    || bytes_eq key (codes "release_detectors") || bytes_eq key (codes "speed_limit")
    || bytes_eq key (codes "track_ranges") || bytes_eq key (codes "signaling_system")

-- whether an object is read at this key
abbrev pub is_read : List ℕ → Bool
is_read key = is_object_key key || is_route_key key || is_list key

-- ---- what is kept

-- two that are absent, or that stand so to one another
abbrev pub BothOrNone : {A : Type 0} → (A → A → Type 0) → Option A → Option A → Type 0
BothOrNone Stands None None = Unit {0}
BothOrNone Stands None (Some kept) = ⊥
BothOrNone Stands (Some all) None = ⊥
BothOrNone Stands (Some all) (Some kept) = Stands all kept

-- as many, each of which stands so to the other in its place
abbrev pub Each : (Data → Data → Type 0) → List Data → List Data → Type 0
Each Stands [] [] = Unit {0}
Each Stands [] (kept ∷ others) = ⊥
Each Stands (all ∷ more) [] = ⊥
Each Stands (all ∷ more) (kept ∷ others) = Stands all kept × Each Stands more others

-- no lists, or two with such elements
abbrev pub KeepsItems : (Data → Data → Type 0) → Data → Data → Type 0
KeepsItems Stands all kept = BothOrNone (Each Stands) (elements_in all) (elements_in kept)

-- at the key of a list of objects what is so kept of them, at any other key the same
abbrev pub KeepsBy : (Data → Data → Type 0) → Bool → Option Data → Option Data → Type 0
KeepsBy Stands true all kept = BothOrNone (KeepsItems Stands) all kept
KeepsBy Stands false all kept = kept ≡ all

-- An object: what stands at keys that are read, some of them keys of lists of objects. What is no
-- object keeps being none.
pub record KeepsObject (reads lists : List ℕ → Bool) (Stands : Data → Data → Type 0)
    (all kept : Data) : Type 0 where
  pub kind : is_some (as_object kept) ≡ is_some (as_object all)
  pub fields : (key : List ℕ) → reads key ≡ true
      → KeepsBy Stands (lists key) (get key all) (get key kept)

-- so many objects deep, each in a list of the one before
abbrev pub Keeps : ℕ → Data → Data → Type 0
Keeps zero = λ all kept. kept ≡ all
Keeps (suc levels) = KeepsObject is_read is_list (Keeps levels)

-- the objects of a file's lists, and those of lists in them
abbrev pub list_levels : ℕ
list_levels = 2

-- a file: its lists of this half
abbrev pub KeepsHalf : Half → Data → Data → Type 0
KeepsHalf half = KeepsObject (is_in half) (is_in half) (Keeps list_levels)

-- What a call returned is what is kept of this half of what a text reads as, unless memory was
-- wanted.
abbrev pub GivesHalf : Half → Result Value Unread → Option Data → Type 0
GivesHalf half (Ok value) read = (all : Data) × (read ≡ Some all) × KeepsHalf half all (view value)
GivesHalf half (Err NotJson) read = read ≡ None
GivesHalf half (Err Memory) read = Unit {0}

-- ---- inside

-- the members at keys that are read
abbrev pub KeepsMembers : (List ℕ → Bool) → (List ℕ → Bool) → (Data → Data → Type 0)
    → Members → Members → Type 0
KeepsMembers reads lists Stands all kept =
    (key : List ℕ) → reads key ≡ true
    → KeepsBy Stands (lists key) (get_member key all) (get_member key kept)

-- the members of an object in a list, and those of a file of this half
abbrev pub KeepsFields : ℕ → Members → Members → Type 0
KeepsFields levels = KeepsMembers is_read is_list (Keeps levels)

abbrev pub KeepsLists : Half → Members → Members → Type 0
KeepsLists half = KeepsMembers (is_in half) (is_in half) (Keeps list_levels)

-- A member was parsed at this key, and these tokens are left. What was kept of any members before
-- is, with it, kept of those with the member.
abbrev pub TakesMember : (Members → Members → Type 0) → Option (Data × List Token) → List Token
    → List ℕ → Members → Members → Type 0
TakesMember KeepsAll parsed left key before after =
    (member : Data)
    × (parsed ≡ Some (member, left))
    × ((all : Members) → KeepsAll all before → KeepsAll (put key member all) after)
