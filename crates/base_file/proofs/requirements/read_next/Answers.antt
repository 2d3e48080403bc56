use Rattle.std.proofs.Common.{◌∙◌, ap, subst, codes}
use Rattle.serde_json.specs.View.{view}
use Rattle.json_fields.specs.Places.{FilePlace, item_of}
use Rattle.base_file.specs.Claims.{GivesNextClaim, claim_in}
use Rattle.base_file.proofs.requirements.read_next.Goals as goal

pub returns-clause-claim : goal.returns-clause-claim
returns-clause-claim c = subst (λ (item : FilePlace). GivesNextClaim c.args.claims.now c.push_claim.new.claims c.push_claim.result (claim_in c.args.zones item (view c.args.value.now))) (c.item-item.ensures ∙ ap (λ n. item_of c.args.place.now (codes "requirements") n) c.len.ensures) c.push_claim.ensures.claim
