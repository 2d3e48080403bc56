use Rattle.stair_pieces.proofs.Claiming.{pieces_are_claims, standing_zones_on, steps_lead_to_places}
use Rattle.stair_pieces.proofs.laws.pieces_are_claims.Goals as goal

pub returns-clause-pieces : goal.returns-clause-pieces
returns-clause-pieces c = pieces_are_claims c.networks_without_flaws.ensures.blocks

pub returns-clause-standing : goal.returns-clause-standing
returns-clause-standing c = standing_zones_on c.networks_without_flaws.ensures.blocks

pub returns-clause-places : goal.returns-clause-places
returns-clause-places c = steps_lead_to_places
