use Rattle.std.proofs.lemmas.Result.{err_from_is_err_and}
use Rattle.entry_codec.specs.Reading.{after, stop_field, items_field}
use Rattle.entry_codec.proofs.Items.{pass_stops_at, pass_on, pass_done}
use Rattle.entry_codec.proofs.passing.pass_stop_items.Goals as goal

pub returns-in_err-_stop : goal.returns-in_err-_stop
returns-in_err-_stop c =
    let p = err_from_is_err_and c.from_residual.result c.from_residual.ensures.1 in
    rw (p.1, p.2) (pass_stops_at stop_field c.in_err-_stop.field-0.0.at c.args.count c.loop.counter c.loop.fields (after (items_field stop_field c.args.count c.args.fields.now)) c.loop-test.true c.in_err-_stop.ensures c.loop.invariant)

pub loop-preserved : goal.loop-preserved
loop-preserved c =
    pass_on stop_field c.args.count c.loop.counter c.loop.fields c.find_stop.new.fields c.in_ok-_stop._stop (after (items_field stop_field c.args.count c.args.fields.now)) c.loop-test.true c.in_ok-_stop.ensures c.loop.invariant

pub returns : goal.returns
returns c = pass_done stop_field c.args.count c.loop.counter c.loop.fields (after (items_field stop_field c.args.count c.args.fields.now)) c.loop-test.false c.loop.invariant
