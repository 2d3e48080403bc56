use Rattle.proof_texts.proofs.Spelled.{request_is}
use Rattle.proof_texts.proofs.laws.asks_can_be_told.Goals as goal

pub returns : goal.returns
returns c =
    λ known fields line number request spells asks.
    let part = c.asks_spell_requests.ensures known fields line number request spells asks in
    ((request_is known).told part.0 request part.1).1
