use Rattle.std.proofs.Common.{◌≤◌, length, drop}
use Rattle.client_lines.specs.Names.{HavePlaces}
use Rattle.client_lines.proofs.places.places_of.Given as goal

abbrev pub invariant-loop-at : goal.invariant-loop-at
invariant-loop-at l = record {
  within : l.at ≤ length l.names;
  placed : HavePlaces (λ key. key.items) l.at (drop l.at l.names) l.places.entries;
}

abbrev pub decreases-loop-at : goal.decreases-loop-at
decreases-loop-at l = l.at
