-- Plans whose numbers are within their limits.
use Rattle.std.specs.Prelude.{ℕ, ◌<◌, ℤ, pos, ◌<ℤ◌, ◌≤ℤ◌, length, All}
use Rattle.label_search.specs.declared.plans.TheConstants.{LATEST}
use Rattle.label_search.specs.declared.plans.Target.{Target}
use Rattle.label_search.specs.declared.plans.Target.TheVariants.{Place as To, End}
use Rattle.label_search.specs.declared.plans.Move.{Move}
use Rattle.label_search.specs.declared.plans.Place.{Place}
use Rattle.label_search.specs.declared.plans.Plan.{Plan}
use Rattle.label_search.specs.Free.{Book}
use Rattle.free_windows.specs.Starts.{IsPiece}

abbrev pub IsShort : ℤ → Type 0
IsShort ticks = (pos 0 ≤ℤ ticks) × (ticks ≤ℤ LATEST)

-- a place of the plan, or an end
abbrev pub IsTarget : ℕ → Target → Type 0
IsTarget places (To place) = place < places
IsTarget places End = Unit {0}

pub record IsMoveOf (places : ℕ) (book : Book) (move : Move) : Type 0 where
  pub run : IsShort move.run × (pos 0 <ℤ move.run)
  pub pieces : All (IsPiece (length book)) move.pieces
  pub target : IsTarget places move.target

pub record IsPlaceOf (places : ℕ) (book : Book) (place : Place) : Type 0 where
  pub dwell : IsShort place.dwell
  pub waits : All (IsPiece (length book)) place.waits
  pub moves : All (IsMoveOf places book) place.moves

-- each move leads to a place of the plan, and each claim is on a zone of the book
pub record IsPlan (plan : Plan) (book : Book) : Type 0 where
  pub start : 0 < length plan.places
  pub horizon : IsShort plan.horizon
  pub places : All (IsPlaceOf (length plan.places) book) plan.places
