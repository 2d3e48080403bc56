-- *Inside*: detectors or buffer stops, sorted over all tracks and handed out to their tracks.
use Rattle.std.specs.Prelude.{◌≡◌, ℕ, ◌<◌, ◌↔◌, Bool, nat_eq, List, [], ◌∷◌, ◌++◌, length}
use Rattle.std.specs.Prelude.{slice_index_or, slice_set}
use Rattle.std.specs.List.{AllPairs, Contains, filter, sum_by}
use Rattle.rail_types.specs.declared.infra_types.tracks.Placed.{Placed}
use Rattle.track_graph.specs.declared.stands.Stand.{Stand}
use Rattle.track_graph.specs.Stands.{ComesBefore, Stands, stands_of}

-- All of them, by position.
pub record AreListed (detectors : List Placed) (listed : List Stand) : Type 0 where
  pub many : length listed ≡ length detectors
  pub order : AllPairs ComesBefore listed
  pub each : (stand : Stand) → Contains listed stand ↔ Stands detectors stand

abbrev pub is_on : ℕ → Stand → Bool
is_on track stand = nat_eq stand.track track

-- The row of each track has what is listed on it.
pub record ShowStands (tracks : ℕ) (listed : List Stand) (rows : List (List Stand)) : Type 0 where
  pub long : length rows ≡ tracks
  pub many : sum_by length rows ≡ length listed
  pub each : (track : ℕ) → track < tracks → stands_of rows track ≡ filter (is_on track) listed

-- that of this number
abbrev pub IsNumbered : List Placed → ℕ → Stand → Type 0
IsNumbered detectors number stand = Stands detectors stand × (stand.number ≡ number)

-- Those so far, by number.
pub record AreFront (detectors : List Placed) (done : ℕ) (listed : List Stand) : Type 0 where
  pub long : length listed ≡ done
  pub each : (number : ℕ) (d : Stand) → number < done
      → IsNumbered detectors number (slice_index_or listed number d)

-- the rows with one more behind those of its track
abbrev pub with_stand : List (List Stand) → Stand → List (List Stand)
with_stand rows stand = slice_set rows stand.track (stands_of rows stand.track ++ stand ∷ [])
