-- *Inside*: tables on the way to a railway.
use Rattle.std.specs.Prelude.{◌≡◌, ℕ, ◌<◌, ◌≤◌, ◌^◌, Option, Some, None, List, slice_index_or}
use Rattle.std.specs.Prelude.{nat_le, if◌then◌else◌}
use Rattle.std.specs.List.{All}
use Rattle.rail_types.specs.declared.limits.TheConstants.{MAX_SIGHT_M}
use Rattle.track_graph.specs.declared.pieces.Piece.{Piece}
use Rattle.signal_blocks.specs.declared.block_cuts.faults.Fault.TheVariants as faults
use Rattle.signal_blocks.specs.declared.block_cuts.faults.Fault.{Fault}
use Rattle.rail_types.specs.declared.infra_types.infras.Infra.{Infra}
use Rattle.track_graph.specs.declared.faults.GraphFault.TheVariants as graphs
use Rattle.track_graph.specs.declared.faults.GraphFault.{GraphFault}
use Rattle.signal_blocks.specs.Networks.{route_name}
use Rattle.signal_blocks.specs.declared.faults.NetFault.TheVariants.{Graph, Walk, EmptyBlock, Limit}
use Rattle.signal_blocks.specs.declared.faults.NetFault.TheVariants.{Memory}
use Rattle.signal_blocks.specs.declared.faults.NetFault.{NetFault}
use Rattle.signal_blocks.specs.declared.faults.RouteFault.{RouteFault}
use Rattle.signal_blocks.specs.declared.posts.Post.{Post}
use Rattle.signal_blocks.specs.declared.zones.ZonedPiece.{ZonedPiece}
use Rattle.signal_blocks.specs.Lines.{speed_ranges, stop_parts}
use Rattle.signal_blocks.specs.Posts.{AreSights, IsNearestOf, posts_at}
use Rattle.signal_blocks.specs.Cuts.{sight_at}
use Rattle.signal_blocks.specs.declared.block_cuts.lines.Lines.{Lines}
use Rattle.track_graph.specs.Layouts.{Layout}

-- the nearest signal at a point
abbrev pub nearest_at : List (Option Post) → ℕ → Option Post
nearest_at table point = slice_index_or table point None

-- By point the nearest of these signals.
pub record AreNearest (posts : List Post) (table : List (Option Post)) : Type 0 where
  pub each : (point : ℕ) → IsNearestOf (posts_at point posts) (nearest_at table point)

-- the nearer of two signals, the first at a tie
abbrev pub nearer : Option Post → Post → Post
nearer None post = post
nearer (Some kept) post = if nat_le kept.gap_m post.gap_m then kept else post

-- signals at points below this number, seen within their limit
abbrev pub IsPost : ℕ → Post → Type 0
IsPost points post = (post.point < points) × (post.sight_m ≤ MAX_SIGHT_M)

-- the positions of a piece are numbers of 32 bits
abbrev pub IsShort : Piece → Type 0
IsShort piece = (piece.begin < 2 ^ 32) × (piece.end < 2 ^ 32)

-- a short piece of one of so many tracks
abbrev pub IsOwn : ℕ → Piece → Type 0
IsOwn tracks piece = IsShort piece × (piece.track < tracks)

-- such a piece in one of so many zones
abbrev pub IsZoned : ℕ → ℕ → ZonedPiece → Type 0
IsZoned tracks zones one = IsOwn tracks one.piece × (one.zone < zones)

-- a walk's fault as it is told
abbrev pub told_walk : Option RouteFault → NetFault
told_walk None = Memory
told_walk (Some fault) = Walk fault

-- a graph's fault as it is told
abbrev pub told_graph : GraphFault → NetFault
told_graph graphs.Memory = Memory
told_graph (graphs.EndTwice track end) = Graph (graphs.EndTwice track end)
told_graph (graphs.OffTrack id) = Graph (graphs.OffTrack id)

-- a railway's fault as it is told
abbrev pub told_blocks : Infra → Fault → NetFault
told_blocks infra (faults.EmptyBlock route at) = EmptyBlock (route_name infra route) at
told_blocks infra (faults.Limit what count) = Limit what count

-- What lies along the tracks of an infrastructure.
pub record AreLinesOf (infra : Infra) (layout : Layout) (lines : Lines) : Type 0 where
  pub sights : AreSights layout infra.signals lines.sights
  pub ranges : lines.ranges ≡ speed_ranges infra.speeds
  pub parts : lines.parts ≡ stop_parts infra.points

-- numbers of the lines within their limits
pub record AreLimited (stops : ℕ) (lines : Lines) : Type 0 where
  pub parts : All (λ part. part.stop < stops) lines.parts
  pub limits : All (λ range. 1 ≤ range.limit) lines.ranges
  pub sights : (point sight : ℕ) → sight_at lines.sights point ≡ Some sight
      → sight ≤ MAX_SIGHT_M
