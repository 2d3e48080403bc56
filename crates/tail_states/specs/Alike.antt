-- Requests that differ in their windows alone have the same places and moves.
use Rattle.std.specs.Prelude.{◌≡◌, List}
use Rattle.rail_types.specs.declared.tracks.Network.{Network}
use Rattle.rail_types.specs.declared.trains.Request.{Request}
use Rattle.stair_pieces.specs.declared.places.Place.{Place}
use Rattle.tail_states.specs.Listed.{Listed, AreThePlaces, AreTheMoves}

-- the same train, from the same origin by the same stops to the same destination
pub record AreAlike (one other : Request) : Type 0 where
  pub train : one.train ≡ other.train
  pub origin : one.origin ≡ other.origin
  pub destination : one.destination ≡ other.destination
  pub stops : one.stops ≡ other.stops

-- what is listed for the one request is listed for the other
pub record AreListedAlike (net : Network) (one other : Request) : Type 0 where
  pub places : (members : List Place) → AreThePlaces net one members
      → AreThePlaces net other members
  pub moves : (listed : Listed) → AreTheMoves net one listed → AreTheMoves net other listed

-- windows change neither the places of a request nor its moves
abbrev pub WindowsChangeNoPlaces : Type 0
WindowsChangeNoPlaces =
    (net : Network) (one other : Request) → AreAlike one other → AreListedAlike net one other
