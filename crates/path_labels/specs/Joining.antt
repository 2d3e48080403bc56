-- Inside: what joins the plan of a request to the request.
use Rattle.std.specs.Prelude.{◌≡◌, ℕ, zero, suc, ◌-◌, ◌+◌, ◌<◌, ◌≤◌, ℤ, List, [], ◌∷◌, length, map}
use Rattle.std.specs.Prelude.{All}
use Rattle.std.specs.List.{slice_index_or}
use Rattle.rail_types.specs.declared.tracks.Network.{Network}
use Rattle.rail_types.specs.declared.trains.Request.{Request}
use Rattle.rail_types.specs.declared.entries.Settings.{Settings}
use Rattle.rail_types.specs.declared.paths.Path.{Path}
use Rattle.rail_types.specs.declared.paths.Run.{Run}
use Rattle.rail_types.specs.Occupation.{HasTicks}
use Rattle.running_time.specs.declared.edges.Edge.TheVariants.{Still as Halted}
use Rattle.blocking_time.specs.Possible.{CanBeGranted}
use Rattle.stair_pieces.specs.declared.places.Place.{Place}
use Rattle.stair_pieces.specs.Places.{start_place, stands_after}
use Rattle.tail_states.specs.declared.certificates.Member.{Member}
use Rattle.tail_states.specs.declared.moves.Move.{Move}
use Rattle.tail_states.specs.declared.moves.Next.TheVariants.{End as Ends}
use Rattle.tail_states.specs.Closing.{IsClosed}
use Rattle.tail_states.specs.Listed.{AreTheMoves, Listed}
use Rattle.label_search.specs.declared.plans.Target.{Target}
use Rattle.label_search.specs.declared.plans.Target.TheVariants.{Place as To, End}
use Rattle.label_search.specs.declared.plans.Plan.{Plan}
use Rattle.label_search.specs.declared.plans.Trip.{Trip}
use Rattle.label_search.specs.declared.plans.Step.{Step}
use Rattle.label_search.specs.declared.plans.Member.{Member as PlannedMember}
use Rattle.label_search.specs.Free.{Book}
use Rattle.label_search.specs.Paths.{IsMove as IsPlannedMove, IsPath, PathFits, arrival, leave_of}
use Rattle.label_search.specs.Paths.{place_at, target_of}
use Rattle.label_search.specs.Closed.{IsClosed as IsClosedPlan, IsLedTo, before as trip_before}
use Rattle.path_labels.specs.Plans.{IsPlanOf}
use Rattle.path_labels.specs.Searched.{IsPlannedOver}
use Rattle.path_labels.specs.Answers.{before, claims_held, last_leave}

-- from each listed place exactly the moves of the request are listed, and these are planned
pub record IsPlannedFrom (net : Network) (settings : Settings) (request : Request) (listed : Listed)
    (plan : Plan) : Type 0 where
  pub moves : AreTheMoves net request listed
  pub planned : IsPlanOf net settings request listed plan

-- the windows of a request
abbrev pub trip_of : Request → Trip
trip_of request = record { depart = request.depart; arrive = request.arrive }

-- the listed moves from the planned place of a number: the start place has 0, each listed
-- place the number behind its own
abbrev pub moves_of : Listed → ℕ → List Move
moves_of listed zero = listed.starts
moves_of listed (suc number) = slice_index_or listed.moves number []

abbrev pub move_of : Listed → ℕ → ℕ → Move
move_of listed place number =
    slice_index_or (moves_of listed place) number
    (record { step = record { block = 0; exit = Halted }; next = Ends })

-- behind the start place the listed places are planned, each with as many moves as are listed
pub record ArePlannedMoves (listed : Listed) (plan : Plan) : Type 0 where
  pub count : length listed.moves ≡ length listed.members
  pub places : length plan.places ≡ length listed.members + 1
  pub moves : (number : ℕ) → number < length plan.places
      → length (moves_of listed number) ≡ length (place_at plan number).moves

-- the run that a step of a planned path makes
abbrev pub run_of : Listed → Plan → ℕ → Step → Run
run_of listed plan place step = record {
  block = (move_of listed place step.number).step.block;
  enter = step.enter;
  leave = leave_of plan place step;
  stops = stands_after (move_of listed place step.number).step.exit;
}

abbrev pub runs_from : Listed → Plan → Target → List Step → List Run
runs_from listed plan target [] = []
runs_from listed plan End (step ∷ steps) = []
runs_from listed plan (To place) (step ∷ steps) =
    run_of listed plan place step ∷ runs_from listed plan (target_of plan place step) steps

-- the path that a planned path makes, from the start place on
abbrev pub path_in : Request → Listed → Plan → List Step → Path
path_in request listed plan steps = record {
  train = request.train;
  runs = runs_from listed plan (To 0) steps;
}

-- steps that go on from a target by moves of the plan
abbrev pub AreSteps : Plan → Target → List Step → Type 0
AreSteps plan target [] = Unit {0}
AreSteps plan End (step ∷ steps) = ⊥
AreSteps plan (To place) (step ∷ steps) =
    IsPlannedMove plan place step × AreSteps plan (target_of plan place step) steps

-- a planned member is at a listed place
abbrev pub IsBehindTheStart : List Place → PlannedMember → Type 0
IsBehindTheStart members member = (1 ≤ member.place) × (member.place ≤ length members)

-- a planned member by its place
abbrev pub member_in : List Place → PlannedMember → Member
member_in members member = record {
  place = slice_index_or members (member.place - 1) start_place;
  window = member.window;
}

abbrev pub members_in : List Place → List PlannedMember → List Member
members_in members planned = map (member_in members) planned

-- the claims that a book holds have ticks
abbrev pub HoldsTicks : Book → Type 0
HoldsTicks book = All (λ claim. HasTicks claim.span) (claims_held book)

-- a planned path that fits makes a path that can be granted, and leaves last at the same tick
pub record MakesAGrant (net : Network) (settings : Settings) (request : Request) (listed : Listed)
    (plan : Plan) (book : Book) (steps : List Step) : Type 0 where
  pub granted : CanBeGranted net settings (claims_held book) request
      (path_in request listed plan steps)
  pub leaves : last_leave (path_in request listed plan steps) ≡ arrival plan steps

abbrev pub PlannedPathsAreGranted : Type 0
PlannedPathsAreGranted =
    (net : Network) (settings : Settings) (request : Request) (listed : Listed) (plan : Plan)
    (book : Book) (steps : List Step)
    → IsPlannedOver net settings request listed plan → HoldsTicks book
    → IsPath plan (trip_of request) steps → PathFits plan book steps
    → MakesAGrant net settings request listed plan book steps

-- there is a planned path that fits, and leaves last when that path does
pub record IsPlannedAs (plan : Plan) (request : Request) (book : Book) (path : Path)
    (steps : List Step) : Type 0 where
  pub path_is : IsPath plan (trip_of request) steps
  pub fits : PathFits plan book steps
  pub leaves : arrival plan steps ≡ last_leave path

abbrev pub GrantedPathsArePlanned : Type 0
GrantedPathsArePlanned =
    (net : Network) (settings : Settings) (request : Request) (listed : Listed) (plan : Plan)
    (book : Book) (path : Path)
    → IsPlannedOver net settings request listed plan → HoldsTicks book
    → CanBeGranted net settings (claims_held book) request path
    → (steps : List Step) × IsPlannedAs plan request book path steps

-- moves of the plan lead to the place of each planned member
abbrev pub AreLedTo : Plan → List PlannedMember → Type 0
AreLedTo plan members = All (λ member. IsLedTo plan member.place) members

-- planned members that are closed are closed when they are told by their places
pub record AreClosedAlike (net : Network) (settings : Settings) (request : Request)
    (listed : Listed) (plan : Plan) (book : Book) (members : List PlannedMember) : Type 0 where
  pub all : IsClosedPlan plan (trip_of request) book members
      → IsClosed net settings request (claims_held book) (members_in listed.members members)
  pub earlier : (tick : ℤ) → IsClosedPlan plan (trip_before (trip_of request) tick) book members
      → IsClosed net settings (before request tick) (claims_held book)
      (members_in listed.members members)

abbrev pub ClosedPlansAreClosed : Type 0
ClosedPlansAreClosed =
    (net : Network) (settings : Settings) (request : Request) (listed : Listed) (plan : Plan)
    (book : Book) (members : List PlannedMember)
    → IsPlannedFrom net settings request listed plan → AreLedTo plan members
    → AreClosedAlike net settings request listed plan book members
