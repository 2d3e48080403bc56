-- The law that joins the steps of a path to its stairway.
use Rattle.std.specs.Prelude.{◌≡◌, ◌≤◌, None}
use Rattle.rail_types.specs.declared.tracks.Network.{Network}
use Rattle.rail_types.specs.declared.entries.Settings.{Settings}
use Rattle.rail_types.specs.declared.entries.Wanted.{Wanted}
use Rattle.rail_types.specs.declared.paths.Path.{Path}
use Rattle.rail_types.specs.Flaws.{first_flaw}
use Rattle.blocking_time.specs.Broken.{broken}
use Rattle.blocking_time.specs.Joined.{CoverTheSame, blocked}
use Rattle.blocking_time.specs.Stairway.{claims_of_path}
use Rattle.stair_pieces.specs.Pieces.{steps_of_path}

-- the steps of a path cover the ticks of its stairway, zone by zone, and so
-- those for which it is granted
pub record StepsCoverTheStairway (net : Network) (settings : Settings) (path : Path) : Type 0 where
  pub stairway : CoverTheSame (claims_of_path net settings path) (steps_of_path net settings path)
  pub granted : CoverTheSame (blocked net settings path) (steps_of_path net settings path)

-- so it is for each path that keeps what it is held to, in a network without a flaw
abbrev pub StepsAreTheStairway : Type 0
StepsAreTheStairway =
    (net : Network) (settings : Settings) (path : Path) (wanted : Wanted) → first_flaw net ≡ None
    → 1 ≤ path.train.length_m → broken net settings path wanted ≡ None
    → StepsCoverTheStairway net settings path
