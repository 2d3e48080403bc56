-- What holds of each walk.
use Rattle.std.specs.Prelude.{◌≡◌, ℕ, ◌+◌, ◌<◌, ◌≤◌, List, Option, Some, None, length}
use Rattle.std.specs.Prelude.{slice_index_or, IfSome}
use Rattle.std.specs.List.{All}
use Rattle.std.specs.List.Sorted.{IsNonDecreasing, IsNonDecreasingBy}
use Rattle.route_walk.specs.declared.walks.Passed.{Passed}
use Rattle.route_walk.specs.declared.walks.Walk.{Walk}

-- A zone or none between each two neighbours; metres and stretches that do not fall along the walk.
pub record IsWalk (walk : Walk) : Type 0 where
  pub legs : length walk.zones + 1 ≡ length walk.passed
  pub onward : IsNonDecreasingBy (λ point. point.metres) walk.passed
  pub covered : IsNonDecreasingBy (λ point. point.reach) walk.passed
  pub within : All (λ point. point.reach ≤ length walk.stretches) walk.passed
  pub releases : IsNonDecreasing walk.releases

-- Zones and points are below these numbers, and a zone is passed wherever metres rise.
pub record IsSound (zone_count point_count : ℕ) (walk : Walk) : Type 0 where
  pub sound : IsWalk walk
  pub zoned : (n : ℕ) (d : Passed) → n + 1 < length walk.passed
      → slice_index_or walk.zones n None ≡ None
      → (slice_index_or walk.passed n d).metres ≡ (slice_index_or walk.passed (n + 1) d).metres
  pub zones : (n zone : ℕ) → slice_index_or walk.zones n None ≡ Some zone → zone < zone_count
  pub points : All (λ passed. passed.point < point_count) walk.passed

-- Of points and the zones between them: those numbers, one zone less than points, and
-- a zone wherever metres rise.
pub record AreSound (zone_count point_count : ℕ) (passed : List Passed)
    (zones : List (Option ℕ)) : Type 0 where
  pub legs : length zones + 1 ≡ length passed
  pub zoned : (n : ℕ) (d : Passed) → n + 1 < length passed → slice_index_or zones n None ≡ None
      → (slice_index_or passed n d).metres ≡ (slice_index_or passed (n + 1) d).metres
  pub below : All (λ zone. IfSome zone (λ number. number < zone_count)) zones
  pub points : All (λ one. one.point < point_count) passed
