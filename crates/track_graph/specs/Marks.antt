-- Pieces marked with zones.
use Rattle.std.specs.Prelude.{◌≡◌, ℕ, ◌+◌, ◌<◌, ◌≤◌, ◌⊎◌, List, [], length, slice_index_or, Option}
use Rattle.std.specs.Prelude.{Some, None, is_none}
use Rattle.std.specs.List.{Contains, count_by}
use Rattle.track_graph.specs.Zones.{AreLinked}
use Rattle.track_graph.specs.Neighbours.{IsNextTo}

abbrev pub HasMark : List (Option ℕ) → ℕ → ℕ → Type 0
HasMark marks a zone = slice_index_or marks a None ≡ Some zone

-- Neighbours have one mark, but for those of pieces that wait.
pub record IsClosed (rows : List (List ℕ)) (marks : List (Option ℕ))
    (waiting : List ℕ) : Type 0 where
  pub same : (a b zone : ℕ) → HasMark marks a zone → IsNextTo rows a b
      → HasMark marks b zone ⊎ Contains waiting a

-- Of these pieces those without a mark have the zone now, and wait.
pub record AreMarked (pieces : List ℕ) (zone : ℕ) (old new : List (Option ℕ))
    (waiting waiting' : List ℕ) : Type 0 where
  pub long : length new ≡ length old
  pub kept : (a y : ℕ) → HasMark old a y → HasMark new a y
  pub all : (a : ℕ) → Contains pieces a → (y : ℕ) × HasMark new a y
  pub fresh : (a y : ℕ) → HasMark new a y
      → HasMark old a y ⊎ ((y ≡ zone) × Contains pieces a × Contains waiting' a)
  pub grown : (a : ℕ) → Contains waiting a → Contains waiting' a
  pub waits : (a : ℕ) → Contains waiting' a
      → Contains waiting a ⊎ (Contains pieces a × HasMark new a zone)
  pub room : count_by is_none new + length waiting' ≡ count_by is_none old + length waiting

-- All that the start leads to has the zone now.
pub record IsFlooded (rows : List (List ℕ)) (start zone : ℕ)
    (old new : List (Option ℕ)) : Type 0 where
  pub long : length new ≡ length old
  pub kept : (a y : ℕ) → HasMark old a y → HasMark new a y
  pub begun : HasMark new start zone
  pub fresh : (a y : ℕ) → HasMark new a y
      → HasMark old a y ⊎ ((y ≡ zone) × AreLinked (IsNextTo rows) start a)
  pub closed : IsClosed rows new []

-- The pieces below done have marks, and what has a mark has it with all that it leads to.
pub record AreNumbered (rows : List (List ℕ)) (done count : ℕ)
    (marks : List (Option ℕ)) : Type 0 where
  pub long : length marks ≡ length rows
  pub few : count ≤ done
  pub marked : (a : ℕ) → a < done → (y : ℕ) × HasMark marks a y
  pub closed : IsClosed rows marks []
  pub linked : (a b y : ℕ) → HasMark marks a y → HasMark marks b y → AreLinked (IsNextTo rows) a b
  pub below : (a y : ℕ) → HasMark marks a y → y < count
  pub each : (y : ℕ) → y < count → (a : ℕ) × (a < done) × HasMark marks a y
  pub order : (b y z : ℕ) → HasMark marks b z → y < z → (a : ℕ) × (a < b) × HasMark marks a y
