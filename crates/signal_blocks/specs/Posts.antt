-- Block signals at their detectors.
use Rattle.std.specs.Prelude.{◌≡◌, ℕ, ◌+◌, ◌-◌, ◌*◌, ◌<◌, ◌≤◌, Bool, nat_eq, nat_le, min, max, List}
use Rattle.std.specs.Prelude.{[], ◌∷◌, ◌++◌, length, slice_get, Option, Some, None, option_map}
use Rattle.std.specs.Prelude.{option_and_then}
use Rattle.std.specs.List.{All, filter, filter_map}
use Rattle.signal_blocks.specs.Cuts.{sight_at}
use Rattle.rail_types.specs.declared.infra_types.ends.Direction.{Direction}
use Rattle.rail_types.specs.declared.infra_types.ends.Direction.TheVariants.{StartToStop}
use Rattle.rail_types.specs.declared.infra_types.ends.Direction.TheVariants.{StopToStart}
use Rattle.rail_types.specs.declared.infra_types.signals.Bal.{Bal}
use Rattle.rail_types.specs.declared.infra_types.signals.Signal.{Signal}
use Rattle.track_graph.specs.declared.stands.Stand.{Stand}
use Rattle.track_graph.specs.Layouts.{Layout}
use Rattle.track_graph.specs.Stands.{stands_of}
use Rattle.signal_blocks.specs.declared.posts.Post.{Post}

-- whether one position lies at or after another in a direction
abbrev pub is_ahead : Direction → ℕ → ℕ → Bool
is_ahead StartToStop from to = nat_le from to
is_ahead StopToStart from to = nat_le to from

-- whether a detector stands at or after a signal, in the signal's direction
abbrev pub stands_ahead : Bal → Stand → Bool
stands_ahead bal stand = is_ahead bal.direction bal.position stand.position

-- of detectors along a track, from its begin on, the first to which a direction comes
abbrev pub first_in : Direction → List Stand → Option Stand
first_in StartToStop stands = slice_get stands 0
first_in StopToStart stands = slice_get stands (length stands - 1)

-- of the detectors along a signal's track the first at or after it, in its direction
abbrev pub detector_among : Bal → List Stand → Option Stand
detector_among bal stands = first_in bal.direction (filter (stands_ahead bal) stands)

-- the detector to which a signal belongs: the first at or after it, in its direction, on its track
abbrev pub detector_of : Layout → Bal → Option Stand
detector_of layout bal = detector_among bal (stands_of layout.stands bal.track)

-- the number of a detector with a direction
abbrev pub point_of : Direction → ℕ → ℕ
point_of StartToStop number = 2 * number
point_of StopToStart number = 2 * number + 1

-- the metres between two positions of a track
abbrev pub gap_between : ℕ → ℕ → ℕ
gap_between one other = max one other - min one other

-- the signal at its detector
abbrev pub post_at : Bal → Stand → Post
post_at bal stand = record {
  point = point_of bal.direction stand.number;
  gap_m = gap_between bal.position stand.position;
  sight_m = bal.sight_m;
}

-- the block signal at its detector, None where no detector is ahead
abbrev pub post_of_bal : Layout → Bal → Option Post
post_of_bal layout bal = option_map (post_at bal) (detector_of layout bal)

-- the signal at its detector, None where it is no block signal, or no detector is ahead
abbrev pub post_of : Layout → Signal → Option Post
post_of layout signal = option_and_then (post_of_bal layout) signal.bal

-- the block signals that belong to detectors, in the file's order
abbrev pub posts_of : Layout → List Signal → List Post
posts_of layout signals = filter_map (post_of layout) signals

-- those that belong to a point
abbrev pub posts_at : ℕ → List Post → List Post
posts_at point posts = filter (λ post. nat_eq post.point point) posts

-- The signal nearest to its detector, the first in the file at a tie.
pub record IsNearest (posts : List Post) (post : Post) : Type 0 where
  pub before : List Post
  pub behind : List Post
  pub whole : posts ≡ before ++ post ∷ behind
  pub nearer : All (λ other. post.gap_m < other.gap_m) before
  pub as_near : All (λ other. post.gap_m ≤ other.gap_m) behind

-- None where there is no signal.
abbrev pub IsNearestOf : List Post → Option Post → Type 0
IsNearestOf posts None = posts ≡ []
IsNearestOf posts (Some post) = IsNearest posts post

-- The sight distance of the nearest signal, None where there is no signal.
abbrev pub IsSight : List Post → Option ℕ → Type 0
IsSight posts sight =
    (nearest : Option Post) × IsNearestOf posts nearest
    × (sight ≡ option_map (λ post. post.sight_m) nearest)

-- By point the sight distance of the nearest signal that belongs to it.
abbrev pub AreSights : Layout → List Signal → List (Option ℕ) → Type 0
AreSights layout signals sights =
    (point : ℕ) → IsSight (posts_at point (posts_of layout signals)) (sight_at sights point)
