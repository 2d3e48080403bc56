-- *Inside*: joins, and for each piece a row of those that are joined to it.
use Rattle.std.specs.Prelude.{ℕ, ◌+◌, ◌-◌, ◌<◌, ◌⊎◌, ◌↔◌, List, [], ◌∷◌, ◌++◌, length, map}
use Rattle.std.specs.Prelude.{slice_index, slice_index_or, slice_set}
use Rattle.std.specs.List.{All, Contains, flat_map}
use Rattle.rail_types.specs.declared.infra_types.ends.End.{End}
use Rattle.rail_types.specs.declared.infra_types.ends.End.TheVariants as ends
use Rattle.rail_types.specs.declared.infra_types.ends.TrackEnd.{TrackEnd}
use Rattle.rail_types.specs.declared.infra_types.switches.Switch.{Switch}
use Rattle.track_graph.specs.declared.neighbours.Join.{Join}

-- A join of the list names these two, in either order.
abbrev pub AreNamed : List Join → ℕ → ℕ → Type 0
AreNamed joins a b =
    Contains joins (record { one = a; other = b }) ⊎ Contains joins (record { one = b; other = a })

abbrev pub AreWithin : ℕ → List Join → Type 0
AreWithin pieces joins = All (λ join. (join.one < pieces) × (join.other < pieces)) joins

-- each port is at one of so many tracks less one
abbrev pub AreOffset : ℕ → List Switch → Type 0
AreOffset count switches = All (λ switch. All (λ end. end.track + 1 < count) switch.ports) switches

abbrev pub place_by : List ℕ → ℕ → End → ℕ
place_by firsts track ends.Begin = slice_index firsts track
place_by firsts track ends.End = slice_index firsts (track + 1) - 1

-- the number of the piece at an end of a track, where each track's first piece has this number
abbrev pub piece_by : List ℕ → TrackEnd → ℕ
piece_by firsts end = place_by firsts end.track end.end

abbrev pub join_of : List ℕ → TrackEnd → TrackEnd → Join
join_of firsts one other = record { one = piece_by firsts one; other = piece_by firsts other }

-- the piece at the first port, joined to the piece at each
abbrev pub star : List ℕ → List TrackEnd → List Join
star firsts [] = []
star firsts (first ∷ rest) = map (join_of firsts first) (first ∷ rest)

-- the joins of all switches
abbrev pub stars : List ℕ → List Switch → List Join
stars firsts switches = flat_map (λ switch. star firsts switch.ports) switches

abbrev pub row_at : List (List ℕ) → ℕ → List ℕ
row_at rows a = slice_index_or rows a []

abbrev pub IsNextTo : List (List ℕ) → ℕ → ℕ → Type 0
IsNextTo rows a b = Contains (row_at rows a) b

-- the rows with one more neighbour
abbrev pub with_neighbour : List (List ℕ) → ℕ → ℕ → List (List ℕ)
with_neighbour rows to piece = slice_set rows to (row_at rows to ++ piece ∷ [])

pub record AreMutual (rows : List (List ℕ)) : Type 0 where
  pub back : (a b : ℕ) → IsNextTo rows a b → IsNextTo rows b a

pub record AreInside (rows : List (List ℕ)) : Type 0 where
  pub below : (a b : ℕ) → IsNextTo rows a b → b < length rows

-- The rows name those pieces that the joins name.
pub record ShowJoins (rows : List (List ℕ)) (joins : List Join) : Type 0 where
  pub each : (a b : ℕ) → IsNextTo rows a b ↔ AreNamed joins a b
