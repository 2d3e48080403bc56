use Rattle.std.proofs.lemmas.Result.{err_from_is_err_and}
use Rattle.entry_codec.specs.Reading.{after, run_field, items_field}
use Rattle.entry_codec.proofs.Items.{pass_stops_at, pass_on, pass_done}
use Rattle.entry_codec.proofs.passing.pass_run_items.Goals as goal

pub returns-in_err-_run : goal.returns-in_err-_run
returns-in_err-_run c =
    let p = err_from_is_err_and c.from_residual.result c.from_residual.ensures.1 in
    rw (p.1, p.2) (pass_stops_at run_field c.in_err-_run.field-0.0.at c.args.count c.loop.counter c.loop.fields (after (items_field run_field c.args.count c.args.fields.now)) c.loop-test.true c.in_err-_run.ensures c.loop.invariant)

pub loop-preserved : goal.loop-preserved
loop-preserved c =
    pass_on run_field c.args.count c.loop.counter c.loop.fields c.find_run.new.fields c.in_ok-_run._run (after (items_field run_field c.args.count c.args.fields.now)) c.loop-test.true c.in_ok-_run.ensures c.loop.invariant

pub returns : goal.returns
returns c = pass_done run_field c.args.count c.loop.counter c.loop.fields (after (items_field run_field c.args.count c.args.fields.now)) c.loop-test.false c.loop.invariant
