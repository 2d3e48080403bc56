-- Which proofs a text tells, by the network and the trains that it may name.
use Rattle.std.specs.Prelude.{◌≡◌, ℕ, ◌^◌, ◌<◌, ◌≤◌, ◌≤ℤ◌, length, All, Some}
use Rattle.client_lines.specs.Forms.{IsName}
use Rattle.client_lines.specs.Names.{Names}
use Rattle.rail_types.specs.IdLists.{number_of}
use Rattle.rail_types.specs.declared.limits.TheConstants.{MAX_DWELL, MAX_NUMBER, MAX_STOPS}
use Rattle.rail_types.specs.declared.tracks.Network.{Network}
use Rattle.rail_types.specs.declared.trains.Request.{Request}
use Rattle.rail_types.specs.declared.trains.Stop.{Stop}
use Rattle.rail_types.specs.declared.trains.Train.{Train}
use Rattle.rail_types.specs.Limits.{IsWindowWithinLimits}
use Rattle.running_time.specs.declared.edges.Enter.{Enter}
use Rattle.running_time.specs.declared.edges.Enter.TheVariants.{Still, From}
use Rattle.tail_states.specs.declared.certificates.Member.{Member}
use Rattle.train_file.specs.Trains.{train_named}
use Rattle.proof_texts.specs.declared.refusals.Proof.{Proof}
use Rattle.proof_texts.specs.Texts.{name_at}

-- a train of the file
pub record IsTrainOf (known : Names) (train : Train) : Type 0 where
  pub named : IsName train.name
  pub found : train_named train.name known.trains ≡ Some train

-- an operational point of the network, the first of its name
pub record IsPointOf (known : Names) (point : ℕ) : Type 0 where
  pub named : IsName (name_at known.railway.stops point)
  pub found : number_of (name_at known.railway.stops point) known.railway.stops ≡ Some point

pub record IsStopOf (known : Names) (stop : Stop) : Type 0 where
  pub point : IsPointOf known stop.stop
  pub short : stop.dwell ≤ MAX_DWELL

-- a request as a line asks for it
pub record IsRequestOf (known : Names) (request : Request) : Type 0 where
  pub train : IsTrainOf known request.train
  pub origin : IsPointOf known request.origin
  pub destination : IsPointOf known request.destination
  pub depart : IsWindowWithinLimits request.depart
  pub arrive : IsWindowWithinLimits request.arrive
  pub count : length request.stops ≤ MAX_STOPS
  pub stops : All (IsStopOf known) request.stops

-- from stand, or at a speed, which has 32 bits
abbrev pub IsEntered : Enter → Type 0
IsEntered Still = Unit {0}
IsEntered (From speed) = (1 ≤ speed) × (speed < 2 ^ 32)

-- a block of a network, by a number of 64 bits
abbrev pub IsBlockOf : Network → ℕ → Type 0
IsBlockOf net block = (block < length net.blocks) × (block < 2 ^ 64)

-- blocks of the network, whether a train may be there or not, and a window that has a tick
pub record IsMemberOn (net : Network) (member : Member) : Type 0 where
  pub blocks : All (IsBlockOf net) member.place.tail
  pub count : length member.place.tail ≤ MAX_NUMBER
  pub entered : IsEntered member.place.entered
  pub made : member.place.made < 2 ^ 32
  pub within : IsWindowWithinLimits member.window
  pub some : member.window.from ≤ℤ member.window.to

-- a proof that a text tells
pub record IsProofOf (known : Names) (proof : Proof) : Type 0 where
  pub front : proof.at ≤ MAX_NUMBER
  pub line : proof.number ≤ MAX_NUMBER
  pub request : IsRequestOf known proof.request
  pub count : length proof.closed.members ≤ MAX_NUMBER
  pub members : All (IsMemberOn known.railway.network) proof.closed.members
