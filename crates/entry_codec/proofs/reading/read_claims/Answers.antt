use Rattle.std.proofs.Common.{◌∙◌, ap, sym, Ok}
use Rattle.std.proofs.lemmas.Result.{err_from_is_err_and}
use Rattle.entry_codec.specs.Reading.{before_all, claims_field}
use Rattle.entry_codec.proofs.Items.{claim_ends, claim_goes_on, claims_done}
use Rattle.entry_codec.proofs.reading.read_claims.Goals as goal

pub returns-in_err-before : goal.returns-in_err-before
returns-in_err-before c =
    let p = err_from_is_err_and c.from_residual-in_err-before.result c.from_residual-in_err-before.ensures.1 in
    rw (p.1, p.2) (claim_ends c.loop.before c.in_err-before.field-0.0.at c.loop.claims.items c.args.count c.loop.counter c.loop.fields (claims_field c.args.count before_all c.args.fields.now) c.loop-test.true c.in_err-before.ensures c.loop.invariant)

pub loop-preserved : goal.loop-preserved
loop-preserved c =
    rw c.in_ok-push.ensures.items (claim_goes_on c.loop.before c.loop.claims.items c.args.count c.loop.counter c.loop.fields c.find_next_claim.new.fields c.in_ok-before.before (claims_field c.args.count before_all c.args.fields.now) c.loop-test.true c.in_ok-before.ensures c.loop.invariant)

pub returns : goal.returns
returns c =
    claims_done c.loop.before c.loop.claims.items c.args.count c.loop.counter c.loop.fields (claims_field c.args.count before_all c.args.fields.now) c.loop-test.false c.loop.invariant
    ∙ ap (λ items. Ok (items, c.loop.fields)) (sym (c.from_list.ensures ∙ c.from_vec.ensures))
