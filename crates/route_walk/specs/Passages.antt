-- What a place is to a walk.
use Rattle.std.specs.Prelude.{◌≡◌, ◌≢◌, ℕ, List, Option, Some, None}
use Rattle.std.specs.List.{Contains}
use Rattle.route_walk.specs.declared.places.Point.{Point}
use Rattle.route_walk.specs.declared.places.Point.TheVariants.{Detector, Stop}
use Rattle.route_walk.specs.declared.passages.Passage.{Passage}
use Rattle.route_walk.specs.declared.passages.Passage.TheVariants.{On, Exit, Twice, Barred}

abbrev pub detector_of : Option Point → Option ℕ
detector_of None = None
detector_of (Some (Detector d)) = Some d
detector_of (Some (Stop t s)) = None

-- A walk goes on where no point stands, or a detector that is not the exit.
abbrev pub GoesOn : Option Point → Point → Type 0
GoesOn None exit = Unit {0}
GoesOn (Some (Detector d)) exit = Detector d ≢ exit
GoesOn (Some (Stop t s)) exit = ⊥

-- A buffer stop that is not the exit bars the way.
abbrev pub IsBarred : Option Point → Point → Type 0
IsBarred None exit = ⊥
IsBarred (Some (Detector d)) exit = ⊥
IsBarred (Some (Stop t s)) exit = Stop t s ≢ exit

-- The place's detector was passed before.
abbrev pub ComesAgain : List ℕ → Option Point → Type 0
ComesAgain passed point = (d : ℕ) × (detector_of point ≡ Some d) × Contains passed d

abbrev pub Arrives : Point → Point → Passage → Type 0
Arrives point exit On = GoesOn (Some point) exit
Arrives point exit Exit = point ≡ exit
Arrives point exit Twice = ⊥
Arrives point exit Barred = IsBarred (Some point) exit

abbrev pub Is : List ℕ → Option Point → Point → Passage → Type 0
Is passed point exit On = GoesOn point exit × (ComesAgain passed point → ⊥)
Is passed point exit Exit = (point ≡ Some exit) × (ComesAgain passed point → ⊥)
Is passed point exit Twice = ComesAgain passed point
Is passed point exit Barred = IsBarred point exit
