-- The moves of a request, the places that they lead to, and the paths that they make.
use Rattle.std.specs.Prelude.{◌≡◌, ◌⊎◌, ℕ, ◌<◌, ◌≤◌, ℤ, pos, ◌+ℤ◌, ◌≤ℤ◌, Bool, true, false, List}
use Rattle.std.specs.Prelude.{[], ◌∷◌, length, All, Contains, Some, None, slice_get}
use Rattle.rail_types.specs.declared.tracks.Block.{Block}
use Rattle.rail_types.specs.declared.tracks.Network.{Network}
use Rattle.rail_types.specs.declared.trains.Stop.{Stop}
use Rattle.rail_types.specs.declared.trains.Request.{Request}
use Rattle.rail_types.specs.declared.entries.Settings.{Settings}
use Rattle.rail_types.specs.declared.entries.Wanted.TheVariants.{Asked}
use Rattle.rail_types.specs.declared.paths.Run.{Run}
use Rattle.rail_types.specs.declared.paths.Path.{Path}
use Rattle.rail_types.specs.declared.paths.Window.{Window}
use Rattle.running_time.specs.declared.edges.Edge.{Edge}
use Rattle.running_time.specs.declared.edges.Edge.TheVariants.{Still as Halted, Rolling}
use Rattle.running_time.specs.Times.{run_ticks}
use Rattle.blocking_time.specs.Runs.{block_at, exit_of}
use Rattle.blocking_time.specs.Broken.{broken}
use Rattle.stair_pieces.specs.declared.places.Place.{Place}
use Rattle.stair_pieces.specs.declared.places.Step.{Step}
use Rattle.stair_pieces.specs.Places.{start_place, step_of, head_block, entry_of, place_after}

-- the block serves the origin, or follows that of the train's head
abbrev pub Reaches : Network → Request → List ℕ → Block → Type 0
Reaches net request [] block = Contains block.serves request.origin
Reaches net request (first ∷ tail) block =
    block.from_point ≡ (block_at net (head_block (first ∷ tail))).to_point

-- all named stops are made, and the block serves the destination
abbrev pub Arrives : Request → ℕ → Block → Type 0
Arrives request made block =
    (made ≡ length request.stops) × Contains block.serves request.destination

-- the next named stop is made, on a block that serves it
abbrev pub MakesStop : Request → ℕ → Block → Type 0
MakesStop request made block =
    (stop : Stop) × (slice_get request.stops made ≡ Some stop) × Contains block.serves stop.stop

-- a train may roll on at the end of any block, and halt there to make the
-- next named stop or to arrive
abbrev pub MayLeave : Request → ℕ → Block → Edge → Type 0
MayLeave request made block Rolling = Unit {0}
MayLeave request made block Halted = MakesStop request made block ⊎ Arrives request made block

-- a move of the request from a place
pub record IsMove (net : Network) (request : Request) (place : Place) (step : Step) : Type 0 where
  pub within : step.block < length net.blocks
  pub reaches : Reaches net request place.tail (block_at net step.block)
  pub leaves : MayLeave request place.made (block_at net step.block) step.exit

-- of the moves from a place those that end the path
abbrev pub IsEnd : Request → Place → Step → Type 0
IsEnd request place step = (step.exit ≡ Halted) × (place.made ≡ length request.stops)

-- the places that moves lead to from the start place, ends excepted
pub data IsPlace (net : Network) (request : Request) : Place → Type 0 where
  begun : (step : Step) → IsMove net request start_place step → ¬ IsEnd request start_place step
      → IsPlace net request (place_after net request.train start_place step)
  gone_on : (place : Place) (step : Step) → IsPlace net request place
      → IsMove net request place step → ¬ IsEnd request place step
      → IsPlace net request (place_after net request.train place step)

-- the runs from a place are moves of the request, of which the last alone is an end
abbrev pub AreMoves : Network → Request → Place → List Run → Type 0
AreMoves net request place [] = Unit {0}
AreMoves net request place (run ∷ []) =
    IsMove net request place (step_of run) × IsEnd request place (step_of run)
AreMoves net request place (run ∷ (next ∷ runs)) =
    IsMove net request place (step_of run) × (¬ IsEnd request place (step_of run))
    × AreMoves net request (place_after net request.train place (step_of run)) (next ∷ runs)

-- the places behind the runs but the last are places of the request
abbrev pub ArePlaces : Network → Request → Place → List Run → Type 0
ArePlaces net request place [] = Unit {0}
ArePlaces net request place (run ∷ []) = Unit {0}
ArePlaces net request place (run ∷ (next ∷ runs)) =
    IsPlace net request (place_after net request.train place (step_of run))
    × ArePlaces net request (place_after net request.train place (step_of run)) (next ∷ runs)

-- a run from a place takes its running time, within the horizon
pub record TakesItsTime (net : Network) (settings : Settings) (request : Request) (place : Place)
    (run : Run) : Type 0 where
  pub timed : run.leave
      ≡ run.enter
      +ℤ pos (run_ticks (block_at net run.block) request.train settings
      (entry_of net request.train place) (exit_of run.stops))
  pub begins : pos 0 ≤ℤ run.enter
  pub ends : run.leave ≤ℤ pos settings.horizon

-- the next run is entered at once, or when the train has dwelt at the stop that it made
abbrev pub GoesOnAfter : Request → ℕ → Bool → Run → Run → Type 0
GoesOnAfter request made false run next = next.enter ≡ run.leave
GoesOnAfter request made true run next =
    (stop : Stop) → slice_get request.stops made ≡ Some stop
    → (run.leave +ℤ pos stop.dwell) ≤ℤ next.enter

-- each of the runs from a place takes its running time, and goes on after the one before
abbrev pub TakeTheirTime : Network → Settings → Request → Place → List Run → Type 0
TakeTheirTime net settings request place [] = Unit {0}
TakeTheirTime net settings request place (run ∷ []) =
    TakesItsTime net settings request place run
TakeTheirTime net settings request place (run ∷ (next ∷ runs)) =
    TakesItsTime net settings request place run × GoesOnAfter request place.made run.stops run next
    × TakeTheirTime net settings request (place_after net request.train place (step_of run))
    (next ∷ runs)

-- a tick of a window, which holds both its ends
abbrev pub IsInside : Window → ℤ → Type 0
IsInside window tick = (window.from ≤ℤ tick) × (tick ≤ℤ window.to)

-- what is said of the first run, and of the last
abbrev pub OfFirst : (Run → Type 0) → List Run → Type 0
OfFirst Said [] = ⊥
OfFirst Said (run ∷ runs) = Said run

abbrev pub OfLast : (Run → Type 0) → List Run → Type 0
OfLast Said [] = ⊥
OfLast Said (run ∷ []) = Said run
OfLast Said (run ∷ (next ∷ runs)) = OfLast Said (next ∷ runs)

-- the request's train makes moves of the request from the start place, in
-- their time, within its windows
pub record IsMadeOfMoves (net : Network) (settings : Settings) (request : Request)
    (path : Path) : Type 0 where
  pub train : path.train ≡ request.train
  pub moves : AreMoves net request start_place path.runs
  pub times : TakeTheirTime net settings request start_place path.runs
  pub departs : OfFirst (λ run. IsInside request.depart run.enter) path.runs
  pub arrives : OfLast (λ run. IsInside request.arrive run.leave) path.runs

-- a path that keeps the request is made of its moves, through its places
abbrev pub PathsAreMoves : Type 0
PathsAreMoves =
    (net : Network) (settings : Settings) (request : Request) (path : Path)
    → 1 ≤ request.train.length_m → 1 ≤ length path.runs
    → All (λ run. run.block < length net.blocks) path.runs
    → broken net settings path (Asked request) ≡ None
    → IsMadeOfMoves net settings request path × ArePlaces net request start_place path.runs

-- a path that is made of moves of the request goes through blocks of the
-- network, and keeps the request
abbrev pub MovesAreAPath : Type 0
MovesAreAPath =
    (net : Network) (settings : Settings) (request : Request) (path : Path)
    → 1 ≤ request.train.length_m → 1 ≤ length path.runs
    → IsMadeOfMoves net settings request path
    → All (λ run. run.block < length net.blocks) path.runs
    × (broken net settings path (Asked request) ≡ None)
