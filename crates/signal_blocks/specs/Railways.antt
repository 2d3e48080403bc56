-- The railway of an infrastructure: its zones, the walks of its routes, what lies along its tracks.
use Rattle.std.specs.Prelude.{◌≡◌, ℕ, ◌+◌, ◌*◌, ◌<◌, List, length, slice_index_or}
use Rattle.signal_blocks.specs.declared.block_cuts.faults.Railway.{Railway}
use Rattle.rail_types.specs.declared.infra_types.infras.Infra.{Infra}
use Rattle.route_walk.specs.Walks.{IsWalkOf}
use Rattle.route_walk.specs.declared.walks.Walk.{Walk}
use Rattle.track_graph.specs.Layouts.{IsLayoutOf, Layout}
use Rattle.signal_blocks.specs.Lines.{speed_ranges, stop_parts}
use Rattle.signal_blocks.specs.Posts.{AreSights}

-- The walks of the first so many routes.
pub record AreWalksOf (infra : Infra) (layout : Layout) (count : ℕ)
    (walks : List Walk) : Type 0 where
  pub long : length walks ≡ count
  pub each : (route : ℕ) (d : Walk) → route < count
      → IsWalkOf infra layout route (slice_index_or walks route d)

-- twice the detectors and buffer stops
abbrev pub point_count : Infra → ℕ
point_count infra = 2 * (length infra.detectors + length infra.buffer_stops)

-- The railway of an infrastructure with this layout.
pub record IsRailwayOf (infra : Infra) (layout : Layout) (railway : Railway) : Type 0 where
  pub laid_out : IsLayoutOf infra layout
  pub zones : railway.zones ≡ layout.count
  pub points : railway.points ≡ point_count infra
  pub stops : railway.stops ≡ length infra.points
  pub sights : AreSights layout infra.signals railway.lines.sights
  pub ranges : railway.lines.ranges ≡ speed_ranges infra.speeds
  pub parts : railway.lines.parts ≡ stop_parts infra.points
  pub walks : AreWalksOf infra layout (length infra.routes) railway.walks
