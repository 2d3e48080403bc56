use Rattle.std.proofs.lemmas.Result.{err_from_is_err_and}
use Rattle.entry_codec.specs.Reading.{after, before_all, claims_field}
use Rattle.entry_codec.proofs.Items.{claim_pass_stops_at, claim_pass_on, claim_pass_done}
use Rattle.entry_codec.proofs.passing.pass_claims.Goals as goal

pub returns-in_err-before : goal.returns-in_err-before
returns-in_err-before c =
    let p = err_from_is_err_and c.from_residual.result c.from_residual.ensures.1 in
    rw (p.1, p.2) (claim_pass_stops_at c.loop.before c.in_err-before.field-0.0.at c.args.count c.loop.counter c.loop.fields (after (claims_field c.args.count before_all c.args.fields.now)) c.loop-test.true c.in_err-before.ensures c.loop.invariant)

pub loop-preserved : goal.loop-preserved
loop-preserved c =
    claim_pass_on c.loop.before c.args.count c.loop.counter c.loop.fields c.find_next_claim.new.fields c.in_ok-before.before (after (claims_field c.args.count before_all c.args.fields.now)) c.loop-test.true c.in_ok-before.ensures c.loop.invariant

pub returns : goal.returns
returns c = claim_pass_done c.loop.before c.args.count c.loop.counter c.loop.fields (after (claims_field c.args.count before_all c.args.fields.now)) c.loop-test.false c.loop.invariant
