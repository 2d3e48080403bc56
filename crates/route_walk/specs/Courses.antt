-- The places that a route comes by.
use Rattle.std.specs.Prelude.{◌≡◌, ◌≢◌, ℕ, ◌⊎◌, List, [], ◌∷◌, ◌++◌, Some}
use Rattle.std.specs.List.{All, AllPairs, filter_map}
use Rattle.route_walk.specs.declared.courses.Ending.{Ending}
use Rattle.route_walk.specs.declared.courses.Ending.TheVariants.{Exit, NoWay, Loop}
use Rattle.route_walk.specs.declared.passages.Passage.{Passage}
use Rattle.route_walk.specs.declared.passages.Passage.TheVariants as passages
use Rattle.route_walk.specs.declared.places.Place.{Place}
use Rattle.route_walk.specs.declared.places.Point.{Point}
use Rattle.route_walk.specs.Passages.{detector_of, GoesOn, IsBarred, ComesAgain}

-- From a, each place leads to the next one.
abbrev pub Follows : (Place → Place → Type 0) → Place → List Place → Type 0
Follows next a [] = Unit {0}
Follows next a (p ∷ ps) = next a p × Follows next p ps

abbrev pub last_of : Place → List Place → Place
last_of a [] = a
last_of a (p ∷ ps) = last_of p ps

-- the detectors at these places, in order
abbrev pub detectors_of : List Place → List ℕ
detectors_of places = filter_map (λ p. detector_of p.point) places

abbrev pub NoneTwice : List ℕ → Type 0
NoneTwice ds = AllPairs (λ a b. a ≢ b) ds

-- The route comes by these places and goes on: no exit, no buffer stop, no detector twice.
pub record IsOpen (next : Place → Place → Type 0) (entry : Place) (exit : Point)
    (places : List Place) : Type 0 where
  pub follows : Follows next entry places
  pub goes_on : All (λ p. GoesOn p.point exit) places
  pub once : NoneTwice (detectors_of (entry ∷ places))

-- Open places, and one more to which the last of them leads.
pub record IsOpenTo (next : Place → Place → Type 0) (entry : Place) (exit : Point)
    (places : List Place) (last : Place) : Type 0 where
  pub before : List Place
  pub whole : places ≡ before ++ last ∷ []
  pub runs : IsOpen next entry exit before
  pub leads : next (last_of entry before) last

-- The places end at the exit, and before it the route goes on.
abbrev pub IsThrough : (Place → Place → Type 0) → Place → Point → List Place → Type 0
IsThrough next entry exit places =
    (last : Place) × (way : IsOpenTo next entry exit places last) × (last.point ≡ Some exit)
    × (ComesAgain (detectors_of (entry ∷ way.before)) last.point → ⊥)

-- The places end at a detector that the route has passed.
abbrev pub IsRound : (Place → Place → Type 0) → Place → Point → List Place → Type 0
IsRound next entry exit places =
    (last : Place) × (way : IsOpenTo next entry exit places last)
    × ComesAgain (detectors_of (entry ∷ way.before)) last.point

-- The places end at a buffer stop that is not the exit.
abbrev pub IsStopped : (Place → Place → Type 0) → Place → Point → List Place → Type 0
IsStopped next entry exit places =
    (last : Place) × IsOpenTo next entry exit places last × IsBarred last.point exit

-- No place is next after these.
abbrev pub IsEnded : (Place → Place → Type 0) → Place → Point → List Place → Type 0
IsEnded next entry exit places =
    IsOpen next entry exit places × ((p : Place) → next (last_of entry places) p → ⊥)

-- The places end where there is no way on.
abbrev pub HasNoWay : (Place → Place → Type 0) → Place → Point → List Place → Type 0
HasNoWay next entry exit places = IsEnded next entry exit places ⊎ IsStopped next entry exit places

-- How the route ends, at the last of these places.
abbrev pub Ends : (Place → Place → Type 0) → Place → Point → Ending → List Place → Type 0
Ends next entry exit Exit places = IsThrough next entry exit places
Ends next entry exit NoWay places = HasNoWay next entry exit places
Ends next entry exit Loop places = IsRound next entry exit places

-- how a route ends at a place where it does not go on
abbrev pub ending_of : Passage → Ending
ending_of passages.Exit = Exit
ending_of passages.On = Loop
ending_of passages.Twice = Loop
ending_of passages.Barred = NoWay
