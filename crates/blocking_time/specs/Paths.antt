-- Paths that calls take.
use Rattle.std.specs.Prelude.{◌<◌, length, All}
use Rattle.rail_types.specs.declared.tracks.Network.{Network}
use Rattle.rail_types.specs.declared.entries.Settings.{Settings}
use Rattle.rail_types.specs.declared.paths.Path.{Path}
use Rattle.rail_types.specs.Limits.{IsBlockWithinLimits, IsRunWithinLimits, IsTrainWithinLimits}
use Rattle.rail_types.specs.Limits.{IsSettingsWithinLimits}

-- a path through blocks of a network, with blocks, train and settings within their limits
pub record IsPathIn (net : Network) (settings : Settings) (path : Path) : Type 0 where
  pub blocks : All IsBlockWithinLimits net.blocks
  pub runs : All (λ run. run.block < length net.blocks) path.runs
  pub train : IsTrainWithinLimits path.train
  pub timetable : IsSettingsWithinLimits settings

-- its ticks too
pub record IsPathOf (net : Network) (settings : Settings) (path : Path) : Type 0 where
  pub blocks : All IsBlockWithinLimits net.blocks
  pub runs : All (λ run. run.block < length net.blocks) path.runs
  pub times : All IsRunWithinLimits path.runs
  pub train : IsTrainWithinLimits path.train
  pub timetable : IsSettingsWithinLimits settings
