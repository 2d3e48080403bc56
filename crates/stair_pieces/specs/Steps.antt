-- What a step is made of.
use Rattle.std.specs.Prelude.{◌≡◌, ℕ, ◌<◌, true, List, [], length, All}
use Rattle.rail_types.specs.declared.tracks.Network.{Network}
use Rattle.rail_types.specs.declared.trains.Train.{Train}
use Rattle.rail_types.specs.declared.entries.Settings.{Settings}
use Rattle.rail_types.specs.Limits.{IsBlockWithinLimits, IsTrainWithinLimits}
use Rattle.rail_types.specs.Limits.{IsSettingsWithinLimits}
use Rattle.running_time.specs.Limits.{IsEnterWithinLimits}
use Rattle.stair_pieces.specs.declared.places.Place.{Place}

-- a train under its limits on blocks of the network, all within theirs
pub record IsTailIn (net : Network) (train : Train) (tail : List ℕ) : Type 0 where
  pub blocks : All IsBlockWithinLimits net.blocks
  pub train_fits : IsTrainWithinLimits train
  pub numbers : All (λ block. block < length net.blocks) tail

-- a place of such a train, which stands where no block is under it
pub record IsPlaceIn (net : Network) (settings : Settings) (train : Train)
    (place : Place) : Type 0 where
  pub under : IsTailIn net train place.tail
  pub timetable : IsSettingsWithinLimits settings
  pub entered : IsEnterWithinLimits place.entered
  pub begins : place.tail ≡ [] → place.standing ≡ true
