-- What shows that no path of a request can be granted.
use Rattle.std.specs.Prelude.{List, map, All}
use Rattle.rail_types.specs.declared.tracks.Network.{Network}
use Rattle.rail_types.specs.declared.trains.Request.{Request}
use Rattle.rail_types.specs.declared.entries.Settings.{Settings}
use Rattle.rail_types.specs.declared.paths.Claim.{Claim}
use Rattle.occupation_book.specs.Zones.{Zone}
use Rattle.occupation_book.specs.Held.{held}
use Rattle.stair_pieces.specs.Moves.{IsPlace}
use Rattle.tail_states.specs.declared.certificates.Closed.{Closed}
use Rattle.tail_states.specs.Closing.{IsClosed}

-- the claims that a book holds, whoever holds them
abbrev pub claims_held : List Zone → List Claim
claims_held book = map (λ one. one.0) (held book)

-- each member is at a place of the request, and the members hold whatever a free move from the
-- start or from a member leads to; no free end arrives in time
pub record IsProof (net : Network) (settings : Settings) (live : List Claim) (request : Request)
    (proof : Closed) : Type 0 where
  pub places : All (λ member. IsPlace net request member.place) proof.members
  pub closed : IsClosed net settings request live proof.members
