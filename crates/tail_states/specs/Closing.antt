-- Places and ticks that no free move leads out of.
use Rattle.std.specs.Prelude.{◌≡◌, ◌-◌, ◌≤◌, ℤ, pos, ◌+ℤ◌, ◌<ℤ◌, ◌≤ℤ◌, true, false, List, All, Any}
use Rattle.std.specs.Prelude.{None, Some, slice_get}
use Rattle.rail_types.specs.declared.tracks.Network.{Network}
use Rattle.rail_types.specs.declared.trains.Request.{Request}
use Rattle.rail_types.specs.declared.trains.Stop.{Stop}
use Rattle.rail_types.specs.declared.entries.Settings.{Settings}
use Rattle.rail_types.specs.declared.paths.Claim.{Claim}
use Rattle.rail_types.specs.declared.paths.Path.{Path}
use Rattle.rail_types.specs.Flaws.{first_flaw}
use Rattle.rail_types.specs.Occupation.{Fits, HasTicks}
use Rattle.running_time.specs.Times.{run_ticks}
use Rattle.blocking_time.specs.Runs.{block_at}
use Rattle.blocking_time.specs.Possible.{CanBeGranted, IsPossible}
use Rattle.stair_pieces.specs.declared.places.Place.{Place}
use Rattle.stair_pieces.specs.declared.places.Step.{Step}
use Rattle.stair_pieces.specs.Places.{start_place, entry_of, place_after, standing_zones}
use Rattle.stair_pieces.specs.Pieces.{pieces_of, later_by, kept}
use Rattle.stair_pieces.specs.Moves.{IsMove, IsEnd, IsInside, OfLast}
use Rattle.tail_states.specs.declared.certificates.Member.{Member}

-- the members hold a place at a tick
abbrev pub IsHeld : List Member → Place → ℤ → Type 0
IsHeld members place tick =
    Any (λ member. (member.place ≡ place) × IsInside member.window tick) members

-- when a move from a place, entered at a tick, reaches the end of its block
abbrev pub leaves_at : Network → Settings → Request → Place → Step → ℤ → ℤ
leaves_at net settings request place step enter =
    enter
    +ℤ pos (run_ticks (block_at net step.block) request.train settings
    (entry_of net request.train place) step.exit)

-- a move of the request, entered at a tick, within the horizon, whose
-- pieces clash with none of these
pub record IsFreeMove (net : Network) (settings : Settings) (request : Request) (live : List Claim)
    (place : Place) (step : Step) (enter : ℤ) : Type 0 where
  pub move : IsMove net request place step
  pub begins : pos 0 ≤ℤ enter
  pub ends : leaves_at net settings request place step enter ≤ℤ pos settings.horizon
  pub pieces : Fits (later_by enter (pieces_of net settings request.train place step)) live

-- a train goes on at a tick from a place that it reached at another: at once where it rolls, after
-- its dwell where it stands, and the zones that it keeps meanwhile clash with none of these
pub record GoesOn (net : Network) (request : Request) (live : List Claim) (place : Place)
    (tick enter : ℤ) : Type 0 where
  pub rolls : place.standing ≡ false → enter ≡ tick
  pub dwells : place.standing ≡ true → (stop : Stop)
      → slice_get request.stops (place.made - 1) ≡ Some stop → (tick +ℤ pos stop.dwell) ≤ℤ enter
  pub waits : Fits (kept (standing_zones net request.train place) tick enter) live

-- what a free move leads to is held; an end whose zones clash with none of these through its
-- release is outside the window of arrival
pub record IsAdmitted (net : Network) (settings : Settings) (request : Request) (live : List Claim)
    (members : List Member) (place : Place) (step : Step) (leave : ℤ) : Type 0 where
  pub held : ¬ IsEnd request place step
      → IsHeld members (place_after net request.train place step) leave
  pub ends : IsEnd request place step
      → Fits
      (kept
      (standing_zones net request.train (place_after net request.train place step))
      leave
      (leave +ℤ pos settings.release))
      live
      → ¬ IsInside request.arrive leave

-- the members hold what each free move that ends below a tick leads to: each from the start
-- in the window of departure, and each from a member; moves that end at the tick or later are
-- not asked for, so this says less than `IsClosed` does of the request whose window of
-- arrival ends one tick before
pub record IsClosedBelow (net : Network) (settings : Settings) (request : Request)
    (live : List Claim) (below : ℤ) (members : List Member) : Type 0 where
  pub start : (step : Step) (enter : ℤ) → IsInside request.depart enter
      → IsFreeMove net settings request live start_place step enter
      → leaves_at net settings request start_place step enter <ℤ below
      → IsAdmitted net settings request live members start_place step
      (leaves_at net settings request start_place step enter)
  pub moves : (place : Place) (step : Step) (tick enter : ℤ) → IsHeld members place tick
      → GoesOn net request live place tick enter
      → IsFreeMove net settings request live place step enter
      → leaves_at net settings request place step enter <ℤ below
      → IsAdmitted net settings request live members place step
      (leaves_at net settings request place step enter)

-- the same of each free move
abbrev pub IsClosed : Network → Settings → Request → List Claim → List Member → Type 0
IsClosed net settings request live members =
    IsClosedBelow net settings request live (pos settings.horizon +ℤ pos 1) members

-- members that are closed below a tick exclude each path that could be granted and ends below it
abbrev pub ExcludesEarlierPaths : Type 0
ExcludesEarlierPaths =
    (net : Network) (settings : Settings) (request : Request) (live : List Claim) (below : ℤ)
    (members : List Member) (path : Path) → first_flaw net ≡ None → 1 ≤ request.train.length_m
    → All (λ claim. HasTicks claim.span) live
    → IsClosedBelow net settings request live below members
    → CanBeGranted net settings live request path → OfLast (λ run. below ≤ℤ run.leave) path.runs

-- closed members exclude all paths
abbrev pub ExcludesAllPaths : Type 0
ExcludesAllPaths =
    (net : Network) (settings : Settings) (request : Request) (live : List Claim)
    (members : List Member) → first_flaw net ≡ None → 1 ≤ request.train.length_m
    → All (λ claim. HasTicks claim.span) live → IsClosed net settings request live members
    → ¬ IsPossible net settings live request
