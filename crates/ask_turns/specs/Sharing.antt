-- What all clients share.
use Rattle.std.specs.Prelude.{◌≡◌}
use Rattle.client_lines.specs.Within.{AreSound}
use Rattle.rail_types.specs.Limits.{IsSettingsWithinLimits}
use Rattle.path_labels.specs.tails.Following.{AreFollowers}
use Rattle.ask_turns.specs.Turns.{timetable_at}
use Rattle.ask_turns.specs.declared.shared.Shared.{Shared}

-- what lines may name is of the network that the gate's book goes by, with the blocks that follow
-- one another there, and the settings are the book's
pub record IsShared {D : Type 0} (shared : Shared D) : Type 0 where
  pub known : AreSound shared.known
  pub network : shared.known.railway.network ≡ (timetable_at shared.gate).net
  pub settings : shared.settings ≡ (timetable_at shared.gate).settings
  pub within : IsSettingsWithinLimits shared.settings
  pub followers : AreFollowers (timetable_at shared.gate).net shared.followers
