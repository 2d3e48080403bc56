-- Inside the listing of places: what is known on the way.
use Rattle.std.specs.Prelude.{◌≡◌, ◌⊎◌, ℕ, ◌<◌, ◌≤◌, true, List, [], ◌∷◌, ◌++◌, length, All}
use Rattle.std.specs.Prelude.{Contains, Some, slice_get}
use Rattle.rail_types.specs.declared.tracks.Network.{Network}
use Rattle.rail_types.specs.declared.trains.Request.{Request}
use Rattle.rail_types.specs.declared.limits.TheConstants.{MAX_PLACES}
use Rattle.running_time.specs.declared.edges.Edge.{Edge}
use Rattle.blocking_time.specs.Runs.{block_at}
use Rattle.stair_pieces.specs.declared.places.Place.{Place}
use Rattle.stair_pieces.specs.declared.places.Step.{Step}
use Rattle.stair_pieces.specs.Places.{start_place}
use Rattle.stair_pieces.specs.Steps.{IsTailIn}
use Rattle.stair_pieces.specs.Moves.{Reaches, IsMove, IsPlace}
use Rattle.tail_states.specs.declared.certificates.Member.{Member}
use Rattle.tail_states.specs.declared.moves.Move.{Move}
use Rattle.tail_states.specs.Listed.{HasNoneTwice, IsListedMove, HasStep, AreMovesFrom}

-- the start place, or a place of the request
pub record IsPlaceFrom (net : Network) (request : Request) (place : Place) : Type 0 where
  pub from : (place ≡ start_place) ⊎ IsPlace net request place
  pub tail : IsTailIn net request.train place.tail
  pub begins : place.tail ≡ [] → place.standing ≡ true
  pub made : place.made ≤ length request.stops

-- places of the request, each once, no more than are listed
pub record AreFound (net : Network) (request : Request) (members : List Place) : Type 0 where
  pub sound : All (IsPlace net request) members
  pub distinct : HasNoneTwice members
  pub few : length members ≤ MAX_PLACES

-- the places keep their numbers
abbrev pub Grows : List Place → List Place → Type 0
Grows old new = (more : List Place) × (new ≡ old ++ more)

-- the blocks that a train may enter from behind these
pub record AreNextBlocks (net : Network) (request : Request) (tail : List ℕ)
    (blocks : List ℕ) : Type 0 where
  pub sound : (block : ℕ) → Contains blocks block
      → (block < length net.blocks) × Reaches net request tail (block_at net block)
  pub whole : (block : ℕ) → block < length net.blocks
      → Reaches net request tail (block_at net block) → Contains blocks block

-- a step is put behind the moves, with where it leads
abbrev pub AddsMove : Network → Request → List Place → Place → Step → List Move → List Move → Type 0
AddsMove net request members place step old new =
    (one : Move) × (new ≡ old ++ one ∷ []) × (one.step ≡ step)
    × IsListedMove net request members place one

-- exactly the moves onto a block are among these
pub record AreMovesOnto (net : Network) (request : Request) (members : List Place) (place : Place)
    (block : ℕ) (moves : List Move) : Type 0 where
  pub sound : All (IsListedMove net request members place) moves
  pub whole : (exit : Edge) → IsMove net request place (record { block = block; exit = exit })
      → HasStep moves (record { block = block; exit = exit })

-- the moves onto a block are put behind the moves
abbrev pub AddsMoves : Network → Request → List Place → Place → ℕ → List Move → List Move → Type 0
AddsMoves net request members place block old new =
    (more : List Move) × (new ≡ old ++ more) × AreMovesOnto net request members place block more

-- exactly the moves onto these blocks
pub record AreMovesOver (net : Network) (request : Request) (members : List Place) (place : Place)
    (blocks : List ℕ) (moves : List Move) : Type 0 where
  pub sound : All (IsListedMove net request members place) moves
  pub whole : (step : Step) → IsMove net request place step → Contains blocks step.block
      → HasStep moves step

-- of the first places, so many, the moves from those of which moves are listed
pub record AreFirstMoves (net : Network) (request : Request) (IsListed : Place → Type 0)
    (members : List Place) (moves : List (List Move)) : Type 0 where
  pub count : length moves ≤ length members
  pub moves_are : (number : ℕ) (place : Place) (own : List Move) → IsListed place
      → slice_get members number ≡ Some place → slice_get moves number ≡ Some own
      → AreMovesFrom net request members place own

-- each place
abbrev pub IsAnyPlace : Place → Type 0
IsAnyPlace place = Unit {0}

-- the moves from the place that has this number among the old places
abbrev pub AreMovesAt : Network → Request → List Place → ℕ → List Place → List Move → Type 0
AreMovesAt net request old number new moves =
    (place : Place) → slice_get old number ≡ Some place → AreMovesFrom net request new place moves

-- the same where it is wanted
abbrev pub AreMovesIfWanted : Network → Request → List Place → List Place → ℕ → List Place
    → List Move → Type 0
AreMovesIfWanted net request wanted old number new moves =
    (place : Place) → Contains wanted place → slice_get old number ≡ Some place
    → AreMovesFrom net request new place moves

-- the members are at these places
abbrev pub AreWantedAmong : List Member → List Place → Type 0
AreWantedAmong wanted places = All (λ member. Contains places member.place) wanted
