-- The plan of a request: its places by their numbers behind the start place, each with its moves.
use Rattle.std.specs.Prelude.{ℕ, ◌+◌, ◌-◌, ◌<◌, ℤ, pos, ◌+ℤ◌, Bool, true, false, List, [], ◌++◌}
use Rattle.std.specs.Prelude.{map, min, Option, Some, None, slice_get, ◌≡◌, length}
use Rattle.std.specs.List.{slice_index_or}
use Rattle.rail_types.specs.declared.limits.TheConstants.{MAX_PLACES}
use Rattle.rail_types.specs.declared.tracks.Network.{Network}
use Rattle.rail_types.specs.declared.trains.Request.{Request}
use Rattle.rail_types.specs.declared.trains.Stop.{Stop}
use Rattle.rail_types.specs.declared.trains.Train.{Train}
use Rattle.rail_types.specs.declared.entries.Settings.{Settings}
use Rattle.rail_types.specs.declared.paths.Claim.{Claim}
use Rattle.running_time.specs.Times.{run_ticks}
use Rattle.blocking_time.specs.Runs.{block_at}
use Rattle.stair_pieces.specs.declared.places.Place.{Place}
use Rattle.stair_pieces.specs.declared.places.Step.{Step}
use Rattle.stair_pieces.specs.Places.{start_place, entry_of, place_after, standing_zones}
use Rattle.stair_pieces.specs.Pieces.{pieces_of, kept}
use Rattle.tail_states.specs.declared.moves.Move.{Move}
use Rattle.tail_states.specs.declared.moves.Next.{Next}
use Rattle.tail_states.specs.declared.moves.Next.TheVariants.{End as Ends, At}
use Rattle.tail_states.specs.Listed.{Listed}
use Rattle.label_search.specs.declared.plans.Target.{Target}
use Rattle.label_search.specs.declared.plans.Target.TheVariants.{Place as To, End}
use Rattle.label_search.specs.declared.plans.Move.{Move as PlannedMove}
use Rattle.label_search.specs.declared.plans.Place.{Place as PlannedPlace}
use Rattle.label_search.specs.declared.plans.Plan.{Plan}

-- the ticks of a step's run; a run that cannot end by the horizon counts
-- one tick more than there are
abbrev pub ticks_within : Settings → ℕ → ℤ
ticks_within settings ticks = pos (min ticks (settings.horizon + 1))

-- those of a step of a train, whatever a request asks of it
abbrev pub ticks_in : Network → Settings → Train → Place → Step → ℤ
ticks_in net settings train place step =
    ticks_within settings
    (run_ticks (block_at net step.block) train settings (entry_of net train place) step.exit)

abbrev pub ticks_of_step : Network → Settings → Request → Place → Step → ℤ
ticks_of_step net settings request place step = ticks_in net settings request.train place step

-- the start place has the number 0, and each listed place the number behind its own
abbrev pub target_of : Next → Target
target_of Ends = End
target_of (At number) = To (number + 1)

-- behind an end the train keeps its zones through their release
abbrev pub kept_at_end : Network → Settings → Train → Place → Step → List Claim
kept_at_end net settings train place step =
    kept
    (standing_zones net train (place_after net train place step))
    (ticks_in net settings train place step)
    (ticks_in net settings train place step +ℤ pos settings.release)

abbrev pub kept_behind : Network → Settings → Request → Place → Step → Next → List Claim
kept_behind net settings request place step (At number) = []
kept_behind net settings request place step Ends =
    kept_at_end net settings request.train place step

-- a move of the plan: its pieces at tick 0, and behind an end what is kept through its release
abbrev pub move_in : Network → Settings → Request → Place → Move → PlannedMove
move_in net settings request place one = record {
  target = target_of one.next;
  run = ticks_of_step net settings request place one.step;
  pieces = pieces_of net settings request.train place one.step
      ++ kept_behind net settings request place one.step one.next;
}

-- the dwell of the stop that was made last, where the train stands
abbrev pub dwell_of : Option Stop → ℤ
dwell_of None = pos 0
dwell_of (Some stop) = pos stop.dwell

abbrev pub dwell_at : Request → ℕ → Bool → ℤ
dwell_at request made false = pos 0
dwell_at request made true = dwell_of (slice_get request.stops (made - 1))

-- a place of the plan, with the claims of one tick of waiting there
abbrev pub place_in : Network → Settings → Request → Place → List Move → PlannedPlace
place_in net settings request place moves = record {
  standing = place.standing;
  dwell = dwell_at request place.made place.standing;
  waits = kept (standing_zones net request.train place) (pos 0) (pos 1);
  moves = map (move_in net settings request place) moves;
}

-- a number that has another behind it
abbrev pub IsNumberOf : Next → Type 0
IsNumberOf Ends = Unit {0}
IsNumberOf (At number) = number < MAX_PLACES

-- the planned place of that number
abbrev pub planned_at : List PlannedPlace → ℕ → PlannedPlace
planned_at planned number =
    slice_index_or planned number
    (record { standing = false; dwell = pos 0; waits = []; moves = [] })

-- what is planned for the listed place of that number
abbrev pub IsPlannedAt : Network → Settings → Request → Listed → ℕ → PlannedPlace → Type 0
IsPlannedAt net settings request listed number planned =
    (place : Place) (moves : List Move) → slice_get listed.members number ≡ Some place
    → slice_get listed.moves number ≡ Some moves
    → planned ≡ place_in net settings request place moves

-- the start place is planned, and behind it the first listed places, so many
pub record AreFirstPlanned (net : Network) (settings : Settings) (request : Request)
    (listed : Listed) (count : ℕ) (planned : List PlannedPlace) : Type 0 where
  pub counted : length planned ≡ count + 1
  pub start : planned_at planned 0
      ≡ place_in net settings request start_place listed.starts
  pub places : (number : ℕ) → number < count
      → IsPlannedAt net settings request listed number (planned_at planned (number + 1))

-- the plan of a request: the start place, each listed place at the number
-- behind its own, and the horizon
pub record IsPlanOf (net : Network) (settings : Settings) (request : Request) (listed : Listed)
    (plan : Plan) : Type 0 where
  pub places : AreFirstPlanned net settings request listed (length listed.members) plan.places
  pub horizon : plan.horizon ≡ pos settings.horizon
