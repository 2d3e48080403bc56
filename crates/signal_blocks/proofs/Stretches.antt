-- What lies between two places of a walk.
use Rattle.std.proofs.Common.{ℕ, ◌<◌, ◌≤◌, length}
use Rattle.signal_blocks.specs.Cuts.{metres_at, nowhere}
use Rattle.signal_blocks.specs.Blocks.{reach_at}
use Rattle.route_walk.specs.Sound.{IsWalk}
use Rattle.route_walk.specs.declared.walks.Walk.{Walk}

pub ahead : (walk : Walk) (from to : ℕ) → IsWalk walk → from ≤ to → to < length walk.passed → metres_at walk.passed from ≤ metres_at walk.passed to
ahead walk from to is le lt = is.onward from to nowhere le lt

pub reach_ahead : (walk : Walk) (from to : ℕ) → IsWalk walk → from ≤ to → to < length walk.passed → reach_at walk from ≤ reach_at walk to
reach_ahead walk from to is le lt = is.covered from to nowhere le lt

pub reach_within : (walk : Walk) (place : ℕ) → IsWalk walk → place < length walk.passed → reach_at walk place ≤ length walk.stretches
reach_within walk place is lt = is.within place nowhere lt
