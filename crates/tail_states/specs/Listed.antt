-- The places of a request by number, with the moves from each.
use Rattle.std.specs.Prelude.{◌≡◌, ◌≢◌, ◌⊎◌, ℕ, ◌+◌, ◌<◌, List, [], ◌∷◌, ◌++◌, length, All}
use Rattle.std.specs.Prelude.{AllPairs, Any, Contains, Some, slice_get}
use Rattle.rail_types.specs.declared.tracks.Network.{Network}
use Rattle.rail_types.specs.declared.trains.Request.{Request}
use Rattle.rail_types.specs.declared.limits.TheConstants.{MAX_PLACES}
use Rattle.stair_pieces.specs.declared.places.Place.{Place}
use Rattle.stair_pieces.specs.declared.places.Step.{Step}
use Rattle.stair_pieces.specs.Places.{start_place, place_after}
use Rattle.stair_pieces.specs.Moves.{IsMove, IsEnd, IsPlace}
use Rattle.tail_states.specs.declared.certificates.Member.{Member}
use Rattle.tail_states.specs.declared.moves.Move.{Move}
use Rattle.tail_states.specs.declared.moves.Next.{Next}
use Rattle.tail_states.specs.declared.moves.Next.TheVariants.{End, At}
use Rattle.tail_states.specs.declared.faults.PlacesFault.{PlacesFault}
use Rattle.tail_states.specs.declared.faults.PlacesFault.TheVariants.{Wide, Memory}

-- the places in the order of their numbers, the moves from the start place, and
-- for each place those from it
pub record Listed : Type 0 where
  pub members : List Place
  pub starts : List Move
  pub moves : List (List Move)

-- no place stands at two numbers
abbrev pub HasNoneTwice : List Place → Type 0
HasNoneTwice members = AllPairs (λ one other. one ≢ other) members

-- where a step from a place leads
abbrev pub LeadsTo : Network → Request → List Place → Place → Step → Next → Type 0
LeadsTo net request members place step End = IsEnd request place step
LeadsTo net request members place step (At number) =
    (¬ IsEnd request place step)
    × (slice_get members number ≡ Some (place_after net request.train place step))

-- a move of the request from a place, with where it leads
pub record IsListedMove (net : Network) (request : Request) (members : List Place) (place : Place)
    (one : Move) : Type 0 where
  pub allowed : IsMove net request place one.step
  pub leads : LeadsTo net request members place one.step one.next

-- the step is among the moves
abbrev pub HasStep : List Move → Step → Type 0
HasStep moves step = (next : Next) × Contains moves (record { step = step; next = next })

-- these are exactly the moves of the request from a place
pub record AreMovesFrom (net : Network) (request : Request) (members : List Place) (place : Place)
    (moves : List Move) : Type 0 where
  pub sound : All (IsListedMove net request members place) moves
  pub whole : (step : Step) → IsMove net request place step → HasStep moves step

-- these are exactly the places of the request, each once
pub record AreThePlaces (net : Network) (request : Request) (members : List Place) : Type 0 where
  pub sound : All (IsPlace net request) members
  pub whole : (place : Place) → IsPlace net request place → Contains members place
  pub distinct : HasNoneTwice members

-- the moves from the start place, and those from each place at its number
pub record AreTheMoves (net : Network) (request : Request) (listed : Listed) : Type 0 where
  pub starts : AreMovesFrom net request listed.members start_place listed.starts
  pub count : length listed.moves ≡ length listed.members
  pub moves : (number : ℕ) (place : Place) (moves : List Move)
      → slice_get listed.members number ≡ Some place → slice_get listed.moves number ≡ Some moves
      → AreMovesFrom net request listed.members place moves

-- a member is at the place
abbrev pub IsWanted : List Member → Place → Type 0
IsWanted wanted place = Any (λ member. member.place ≡ place) wanted

-- places of the request, each once; there may be others
pub record AreSomePlaces (net : Network) (request : Request) (members : List Place) : Type 0 where
  pub sound : All (IsPlace net request) members
  pub distinct : HasNoneTwice members

-- the moves from the start place, and those from each listed place that is wanted at its number
pub record HaveWantedMoves (net : Network) (request : Request) (wanted : List Member)
    (listed : Listed) : Type 0 where
  pub starts : AreMovesFrom net request listed.members start_place listed.starts
  pub count : length listed.moves ≡ length listed.members
  pub moves : (number : ℕ) (place : Place) (moves : List Move) → IsWanted wanted place
      → slice_get listed.members number ≡ Some place → slice_get listed.moves number ≡ Some moves
      → AreMovesFrom net request listed.members place moves

-- the request has more places than this number
abbrev pub HasMoreThan : ℕ → Network → Request → Type 0
HasMoreThan most net request =
    (places : List Place) × (most < length places) × HasNoneTwice places
    × All (IsPlace net request) places

-- why the places of a request are not listed
abbrev pub Refuses : Network → Request → PlacesFault → Type 0
Refuses net request (Wide count) =
    (count ≡ MAX_PLACES + 1) × HasMoreThan MAX_PLACES net request
Refuses net request Memory = Unit {0}

-- inside: a place is put behind the others where it is new
abbrev pub Interns : List Place → List Place → Place → Type 0
Interns old new place = (new ≡ old) ⊎ (new ≡ old ++ place ∷ [])
