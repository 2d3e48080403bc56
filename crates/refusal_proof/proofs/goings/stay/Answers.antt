use Rattle.std.proofs.Common.{◌∙◌, get_or}
use Rattle.std.proofs.lemmas.List.{get_or_default}
use Rattle.occupation_book.specs.Held.{held}
use Rattle.refusal_proof.proofs.Staying.{next_stay}
use Rattle.refusal_proof.proofs.goings.stay.Goals as goal

pub loop-zone-preserved : goal.loop-zone-preserved
loop-zone-preserved c =
    let zones = c.args.zones.now in
    let k = c.loop-zone.zone-index in
    record {
      from = c.shorter-rest.ensures.from ∙ c.loop-zone.invariant.from;
      stays = next_stay (held c.args.book.now) zones c.args.window.now k (get_or zones k 0) c.loop-zone.rest.to c.stay_on.result.to c.shorter-rest.result.to c.loop-zone-test.true
          (λ d. get_or_default zones k d 0 c.loop-zone-test.true) c.loop-zone.invariant.stays c.stay_on.ensures.to c.shorter-rest.ensures.to;
    }
