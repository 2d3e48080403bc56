-- A path fits where its steps do.
use Rattle.std.specs.Prelude.{◌≡◌, ◌↔◌, ◌≤◌, ℤ, List, [], ◌∷◌, All, None}
use Rattle.rail_types.specs.declared.tracks.Network.{Network}
use Rattle.rail_types.specs.declared.trains.Train.{Train}
use Rattle.rail_types.specs.declared.entries.Settings.{Settings}
use Rattle.rail_types.specs.declared.entries.Wanted.{Wanted}
use Rattle.rail_types.specs.declared.paths.Claim.{Claim}
use Rattle.rail_types.specs.declared.paths.Path.{Path}
use Rattle.rail_types.specs.declared.paths.Run.{Run}
use Rattle.rail_types.specs.Flaws.{first_flaw}
use Rattle.rail_types.specs.Occupation.{Fits, HasTicks}
use Rattle.blocking_time.specs.Broken.{broken}
use Rattle.blocking_time.specs.Joined.{blocked}
use Rattle.blocking_time.specs.Stairway.{claims_of_path}
use Rattle.stair_pieces.specs.declared.places.Place.{Place}
use Rattle.stair_pieces.specs.Places.{start_place, step_of, place_after, standing_zones}
use Rattle.stair_pieces.specs.Pieces.{pieces_of, later_by, kept, wait_end}

-- the pieces of a run from a place clash with none of these, nor do the
-- zones that it keeps until a tick
pub record IsFree (net : Network) (settings : Settings) (train : Train) (live : List Claim)
    (place : Place) (run : Run) (until : ℤ) : Type 0 where
  pub pieces : Fits (later_by run.enter (pieces_of net settings train place (step_of run))) live
  pub waits : Fits
      (kept (standing_zones net train (place_after net train place (step_of run))) run.leave until)
      live

-- each of the runs from a place is free
abbrev pub AreFree : Network → Settings → Train → List Claim → Place → List Run → Type 0
AreFree net settings train live place [] = Unit {0}
AreFree net settings train live place (run ∷ runs) =
    IsFree net settings train live place run (wait_end settings run runs)
    × AreFree net settings train live (place_after net train place (step_of run)) runs

-- a path fits, by its stairway and by the claims for which it is granted, exactly
-- where each of its runs is free
pub record FitsByRuns (net : Network) (settings : Settings) (path : Path)
    (live : List Claim) : Type 0 where
  pub stairway : Fits (claims_of_path net settings path) live
      ↔ AreFree net settings path.train live start_place path.runs
  pub granted : Fits (blocked net settings path) live
      ↔ AreFree net settings path.train live start_place path.runs

-- so it is for each path that keeps what it is held to, in a network without a flaw
abbrev pub FitsRunByRun : Type 0
FitsRunByRun =
    (net : Network) (settings : Settings) (path : Path) (wanted : Wanted) (live : List Claim)
    → first_flaw net ≡ None → 1 ≤ path.train.length_m → broken net settings path wanted ≡ None
    → All (λ claim. HasTicks claim.span) live → FitsByRuns net settings path live
