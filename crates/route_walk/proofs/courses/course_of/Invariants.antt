use Rattle.std.proofs.Common.{◌≡◌, ◌∷◌, length}
use Rattle.std.specs.List.{All}
use Rattle.route_walk.specs.Courses.{IsOpen, last_of, detectors_of}
use Rattle.route_walk.specs.Places.{IsPlace}
use Rattle.route_walk.specs.Ways.{Comes}
use Rattle.route_walk.proofs.courses.course_of.Given as goal

abbrev pub invariant-steps : goal.invariant-steps
invariant-steps l = record {
  runs : IsOpen (Comes l.infra l.graph l.ways) l.entry l.exit l.places.items;
  place : l.place ≡ last_of l.entry l.places.items;
  passed : l.detectors.keys ≡ detectors_of (l.entry ∷ l.places.items);
  here : IsPlace l.infra l.graph l.place;
  places : All (IsPlace l.infra l.graph) l.places.items;
  count : length l.places.items ≡ l.counter;
}
