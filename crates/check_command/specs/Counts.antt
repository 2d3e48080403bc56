-- Inside: how many spots trains have, which is kept for the next proofs of their requests.
use Rattle.std.specs.Prelude.{◌≡◌, ◌⊎◌, ℕ, ◌≤◌, List, length, All, Contains, IfSome}
use Rattle.rail_types.specs.declared.tracks.Network.{Network}
use Rattle.rail_types.specs.declared.trains.Train.{Train}
use Rattle.refusal_proof.specs.tails.Spots.{AreSpots, Spotted}
use Rattle.refusal_proof.specs.tails.declared.listed_spots.TheConstants.{MAX_SPOTS}
use Rattle.check_command.specs.declared.counts.TheConstants.{MAX_COUNTS}
use Rattle.check_command.specs.declared.counts.TrainCount.{TrainCount}

-- the train has so many spots
pub record HasSpots (net : Network) (train : Train) (count : ℕ) : Type 0 where
  pub spotted : Spotted
  pub spots : AreSpots net train spotted
  pub counted : length spotted.spots ≡ count
  pub few : count ≤ MAX_SPOTS

-- a train has so many spots as are told of it
abbrev pub IsCounted : Network → TrainCount → Type 0
IsCounted net one = IfSome one.spots (HasSpots net one.train)

-- each train has so many spots as are told, and no more trains are kept than may be
pub record AreCounted (net : Network) (counts : List TrainCount) : Type 0 where
  pub counted : All (IsCounted net) counts
  pub few : length counts ≤ MAX_COUNTS

-- no more than one is new among these
abbrev pub IsAddedAlone : TrainCount → List TrainCount → List TrainCount → Type 0
IsAddedAlone one old new = All (λ kept. Contains old kept ⊎ (kept ≡ one)) new
