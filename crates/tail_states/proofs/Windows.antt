-- Places and moves do not look at the windows of a request.
use Rattle.std.proofs.Common.{◌≡◌, subst, ℕ, List, [], ◌∷◌}
use Rattle.rail_types.specs.declared.tracks.Block.{Block}
use Rattle.rail_types.specs.declared.tracks.Network.{Network}
use Rattle.rail_types.specs.declared.trains.Request.{Request}
use Rattle.rail_types.specs.declared.paths.Window.{Window}
use Rattle.running_time.specs.declared.edges.Edge.{Edge}
use Rattle.running_time.specs.declared.edges.Edge.TheVariants.{Still as Halted, Rolling}
use Rattle.blocking_time.specs.Runs.{block_at}
use Rattle.stair_pieces.specs.declared.places.Place.{Place}
use Rattle.stair_pieces.specs.declared.places.Step.{Step}
use Rattle.stair_pieces.specs.Places.{start_place}
use Rattle.stair_pieces.specs.Moves.{Reaches, MayLeave, IsMove, IsPlace, begun, gone_on}
use Rattle.tail_states.specs.declared.moves.Move.{Move}
use Rattle.tail_states.specs.declared.moves.Next.{Next}
use Rattle.tail_states.specs.declared.moves.Next.TheVariants.{End, At}
use Rattle.tail_states.specs.Listed.{LeadsTo, IsListedMove, AreMovesFrom}
use Rattle.tail_states.specs.Alike.{AreAlike, AreListedAlike, WindowsChangeNoPlaces}

-- the request with other windows
abbrev within : Request → Window → Window → Request
within request depart arrive = record {
  train = request.train;
  origin = request.origin;
  destination = request.destination;
  depart = depart;
  arrive = arrive;
  stops = request.stops;
}

module _ (net : Network) (request : Request) (depart arrive : Window) where
  reaches_alike : (tail : List ℕ) (block : Block) → Reaches net request tail block → Reaches net (within request depart arrive) tail block
  reaches_alike [] block reaches = reaches
  reaches_alike (first ∷ tail) block reaches = reaches

  leaves_alike : (made : ℕ) (block : Block) (exit : Edge) → MayLeave request made block exit → MayLeave (within request depart arrive) made block exit
  leaves_alike made block Rolling leaves = leaves
  leaves_alike made block Halted leaves = leaves

  move_alike : (place : Place) (step : Step) → IsMove net request place step → IsMove net (within request depart arrive) place step
  move_alike place step move = record {
    within = move.within;
    reaches = reaches_alike place.tail (block_at net step.block) move.reaches;
    leaves = leaves_alike place.made (block_at net step.block) step.exit move.leaves;
  }

  place_alike : (place : Place) → IsPlace net request place → IsPlace net (within request depart arrive) place
  place_alike place (begun step move no_end) = begun step (move_alike start_place step move) no_end
  place_alike place (gone_on before step among move no_end) = gone_on before step (place_alike before among) (move_alike before step move) no_end

  leads_alike : (members : List Place) (place : Place) (step : Step) (next : Next) → LeadsTo net request members place step next → LeadsTo net (within request depart arrive) members place step next
  leads_alike members place step End leads = leads
  leads_alike members place step (At number) leads = leads

  listed_alike : (members : List Place) (place : Place) (one : Move) → IsListedMove net request members place one → IsListedMove net (within request depart arrive) members place one
  listed_alike members place one listed = record {
    allowed = move_alike place one.step listed.allowed;
    leads = leads_alike members place one.step one.next listed.leads;
  }

module _ (net : Network) (request : Request) (depart arrive : Window) where
  moves_alike : (members : List Place) (place : Place) (moves : List Move) → AreMovesFrom net request members place moves → AreMovesFrom net (within request depart arrive) members place moves
  moves_alike members place moves from = record {
    sound = λ k one inside. listed_alike net request depart arrive members place _ (from.sound k one inside);
    whole = λ step move. from.whole step (move_alike net (within request depart arrive) request.depart request.arrive place step move);
  }

  within_alike : AreListedAlike net request (within request depart arrive)
  within_alike = record {
    places = λ members are. record {
      sound = λ k one inside. place_alike net request depart arrive _ (are.sound k one inside);
      whole = λ place among. are.whole place (place_alike net (within request depart arrive) request.depart request.arrive place among);
      distinct = are.distinct;
    };
    moves = λ listed are. record {
      starts = moves_alike listed.members start_place listed.starts are.starts;
      count = are.count;
      moves = λ number place moves at of. moves_alike listed.members place moves (are.moves number place moves at of);
    };
  }

other_is : (one other : Request) → AreAlike one other → within one other.depart other.arrive ≡ other
other_is one other alike = λ j. record {
  train = alike.train j;
  origin = alike.origin j;
  destination = alike.destination j;
  depart = other.depart;
  arrive = other.arrive;
  stops = alike.stops j;
}

pub windows_change_no_places : WindowsChangeNoPlaces
windows_change_no_places net one other alike = subst (AreListedAlike net one) (other_is one other alike) (within_alike net one other.depart other.arrive)
