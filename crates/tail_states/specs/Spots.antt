-- The spots of a train: its places whatever stops it has made, with the ways from each.
use Rattle.std.specs.Prelude.{◌≡◌, ◌⊎◌, ℕ, ◌+◌, ◌*◌, ◌<◌, ◌≤◌, List, [], ◌∷◌, ◌++◌, length, All}
use Rattle.std.specs.Prelude.{Contains, None, Some, slice_get}
use Rattle.rail_types.specs.declared.limits.TheConstants.{MAX_PLACES}
use Rattle.rail_types.specs.declared.tracks.Block.{Block}
use Rattle.rail_types.specs.declared.tracks.Network.{Network}
use Rattle.rail_types.specs.declared.trains.Request.{Request}
use Rattle.rail_types.specs.declared.trains.Train.{Train}
use Rattle.rail_types.specs.Flaws.{first_flaw}
use Rattle.rail_types.specs.Limits.{IsBlockWithinLimits, IsTrainWithinLimits}
use Rattle.running_time.specs.declared.edges.Edge.{Edge}
use Rattle.running_time.specs.declared.edges.Edge.TheVariants.{Still as Halted}
use Rattle.running_time.specs.Limits.{IsEnterWithinLimits}
use Rattle.blocking_time.specs.Runs.{block_at}
use Rattle.stair_pieces.specs.declared.places.Place.{Place}
use Rattle.stair_pieces.specs.declared.places.Step.{Step}
use Rattle.stair_pieces.specs.Places.{start_place, head_block, place_after}
use Rattle.stair_pieces.specs.Steps.{IsTailIn}
use Rattle.tail_states.specs.declared.faults.SpotsFault.{SpotsFault}
use Rattle.tail_states.specs.declared.faults.SpotsFault.TheVariants.{TooMany, Memory}
use Rattle.tail_states.specs.declared.listed_spots.TheConstants.{MAX_SPOTS}
use Rattle.tail_states.specs.declared.ways.Way.{Way}
use Rattle.tail_states.specs.Asked.{HasPoints, IsAsked}
use Rattle.tail_states.specs.Listed.{HasMoreThan, HasNoneTwice}

-- the spots in the order of their numbers, and for each the ways from it
pub record Spotted : Type 0 where
  pub spots : List Place
  pub ways : List (List Way)

-- a place with another count of stops made
abbrev pub with_made : Place → ℕ → Place
with_made place made = record {
  tail = place.tail;
  entered = place.entered;
  standing = place.standing;
  made = made;
}

-- the spot behind a step
abbrev pub spot_after : Network → Train → Place → Step → Place
spot_after net train spot step = with_made (place_after net train spot step) 0

-- the block follows that of the train's head, or serves some operational point where a path begins
abbrev pub MayComeNext : Network → List ℕ → Block → Type 0
MayComeNext net [] block = ¬ (block.serves ≡ [])
MayComeNext net (first ∷ tail) block =
    block.from_point ≡ (block_at net (head_block (first ∷ tail))).to_point

-- a step that some request of a train may allow from a spot, or from the start: a train rolls on at
-- the end of any block, and halts where some operational point is served
pub record IsStride (net : Network) (spot : Place) (step : Step) : Type 0 where
  pub within : step.block < length net.blocks
  pub follows : MayComeNext net spot.tail (block_at net step.block)
  pub halts : step.exit ≡ Halted → ¬ ((block_at net step.block).serves ≡ [])

-- the spots that strides lead to from the start
pub data IsReached (net : Network) (train : Train) : Place → Type 0 where
  set_out : (step : Step) → IsStride net start_place step
      → IsReached net train (spot_after net train start_place step)
  run_on : (spot : Place) (step : Step) → IsReached net train spot → IsStride net spot step
      → IsReached net train (spot_after net train spot step)

-- what each spot of a train is
pub record IsSpotOf (net : Network) (train : Train) (spot : Place) : Type 0 where
  pub reached : IsReached net train spot
  pub under : IsTailIn net train spot.tail
  pub gone : spot.tail ≡ [] → ⊥
  pub entered : IsEnterWithinLimits spot.entered
  pub made : spot.made ≡ 0

-- a stride from a spot, and where it leads
pub record IsWayOf (net : Network) (train : Train) (spots : List Place) (spot : Place)
    (way : Way) : Type 0 where
  pub allowed : IsStride net spot way.step
  pub leads : slice_get spots way.next ≡ Some (spot_after net train spot way.step)

-- the step is among the ways
abbrev pub HasWay : List Way → Step → Type 0
HasWay ways step = (next : ℕ) × Contains ways (record { step = step; next = next })

-- these are exactly the strides from a spot
pub record AreWaysFrom (net : Network) (train : Train) (spots : List Place) (spot : Place)
    (ways : List Way) : Type 0 where
  pub sound : All (IsWayOf net train spots spot) ways
  pub whole : (step : Step) → IsStride net spot step → HasWay ways step

-- The spots of a train, each once: exactly those behind strides from the start, and behind strides
-- from any of them. A spot need not be reached by a request.
pub record AreSpots (net : Network) (train : Train) (spotted : Spotted) : Type 0 where
  pub sound : All (IsSpotOf net train) spotted.spots
  pub distinct : HasNoneTwice spotted.spots
  pub starts : (step : Step) → IsStride net start_place step
      → Contains spotted.spots (spot_after net train start_place step)
  pub count : length spotted.ways ≡ length spotted.spots
  pub ways : (number : ℕ) (spot : Place) (ways : List Way)
      → slice_get spotted.spots number ≡ Some spot → slice_get spotted.ways number ≡ Some ways
      → AreWaysFrom net train spotted.spots spot ways

-- the train has more spots than this number
abbrev pub HasMoreSpotsThan : ℕ → Network → Train → Type 0
HasMoreSpotsThan most net train =
    (spots : List Place) × (most < length spots) × HasNoneTwice spots
    × All (IsSpotOf net train) spots

-- why the spots of a train are not listed
abbrev pub RefusesTrain : Network → Train → SpotsFault → Type 0
RefusesTrain net train (TooMany count) =
    (count ≡ MAX_SPOTS + 1) × HasMoreSpotsThan MAX_SPOTS net train
RefusesTrain net train Memory = Unit {0}

-- a train within its limits on a network within its own
pub record MayRun (net : Network) (train : Train) : Type 0 where
  pub points : HasPoints net
  pub blocks : All IsBlockWithinLimits net.blocks
  pub train_fits : IsTrainWithinLimits train

-- so is each train within its limits on a network without a flaw
abbrev pub SoundNetworksAreRun : Type 0
SoundNetworksAreRun =
    (net : Network) (train : Train) → first_flaw net ≡ None → IsTrainWithinLimits train
    → MayRun net train

-- with each count of stops that can be made, the spots are no more than places that are searched
abbrev pub AreFewEnough : Request → Spotted → Type 0
AreFewEnough request spotted =
    (length spotted.spots * (length request.stops + 1)) ≤ MAX_PLACES

-- so the request has no more places than are searched
abbrev pub SpotsBoundPlaces : Type 0
SpotsBoundPlaces =
    (net : Network) (request : Request) (spotted : Spotted) → IsAsked net request
    → AreSpots net request.train spotted → AreFewEnough request spotted
    → ¬ HasMoreThan MAX_PLACES net request

-- ---- inside the listing of spots

-- the start place, or a spot of the train
pub record IsSpotFrom (net : Network) (train : Train) (spot : Place) : Type 0 where
  pub from : (spot ≡ start_place) ⊎ IsReached net train spot
  pub under : IsTailIn net train spot.tail
  pub begins : spot.tail ≡ [] → spot ≡ start_place
  pub made : spot.made ≡ 0

-- spots of the train, each once, no more than are listed
pub record AreSpotsFound (net : Network) (train : Train) (spots : List Place) : Type 0 where
  pub sound : All (IsSpotOf net train) spots
  pub distinct : HasNoneTwice spots
  pub few : length spots ≤ MAX_SPOTS

-- the blocks that a train may enter from behind these
pub record AreBlocksBehind (net : Network) (tail blocks : List ℕ) : Type 0 where
  pub sound : (block : ℕ) → Contains blocks block
      → (block < length net.blocks) × MayComeNext net tail (block_at net block)
  pub whole : (block : ℕ) → block < length net.blocks → MayComeNext net tail (block_at net block)
      → Contains blocks block

-- a step is put behind the ways, with where it leads
abbrev pub AddsWay : Network → Train → List Place → Place → Step → List Way → List Way → Type 0
AddsWay net train spots spot step old new =
    (one : Way) × (new ≡ old ++ one ∷ []) × (one.step ≡ step) × IsWayOf net train spots spot one

-- exactly the ways onto a block are among these
pub record AreWaysOnto (net : Network) (train : Train) (spots : List Place) (spot : Place)
    (block : ℕ) (ways : List Way) : Type 0 where
  pub sound : All (IsWayOf net train spots spot) ways
  pub whole : (exit : Edge) → IsStride net spot (record { block = block; exit = exit })
      → HasWay ways (record { block = block; exit = exit })

-- the ways onto a block are put behind the ways
abbrev pub AddsWays : Network → Train → List Place → Place → ℕ → List Way → List Way → Type 0
AddsWays net train spots spot block old new =
    (more : List Way) × (new ≡ old ++ more) × AreWaysOnto net train spots spot block more

-- exactly the ways onto these blocks
pub record AreWaysOver (net : Network) (train : Train) (spots : List Place) (spot : Place)
    (blocks : List ℕ) (ways : List Way) : Type 0 where
  pub sound : All (IsWayOf net train spots spot) ways
  pub whole : (step : Step) → IsStride net spot step → Contains blocks step.block
      → HasWay ways step

-- the ways from the first spots, so many
pub record AreFirstWays (net : Network) (train : Train) (spots : List Place)
    (ways : List (List Way)) : Type 0 where
  pub count : length ways ≤ length spots
  pub ways_are : (number : ℕ) (spot : Place) (own : List Way)
      → slice_get spots number ≡ Some spot → slice_get ways number ≡ Some own
      → AreWaysFrom net train spots spot own

-- the strides from the start onto the first blocks, so many, lead to spots
abbrev pub HoldStarts : Network → Train → ℕ → List Place → Type 0
HoldStarts net train count spots =
    (step : Step) → step.block < count → IsStride net start_place step
    → Contains spots (spot_after net train start_place step)

-- the ways from the spot that has this number among the old spots
abbrev pub AreWaysAt : Network → Train → List Place → ℕ → List Place → List Way → Type 0
AreWaysAt net train old number new ways =
    (spot : Place) → slice_get old number ≡ Some spot → AreWaysFrom net train new spot ways
