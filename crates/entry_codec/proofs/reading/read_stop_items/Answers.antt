use Rattle.std.proofs.Common.{◌∙◌, ap, sym, Ok}
use Rattle.std.proofs.lemmas.Result.{err_from_is_err_and}
use Rattle.entry_codec.specs.Reading.{stop_field, items_field}
use Rattle.entry_codec.proofs.Items.{ends, goes_on, is_done}
use Rattle.entry_codec.proofs.reading.read_stop_items.Goals as goal

pub returns-in_err-item : goal.returns-in_err-item
returns-in_err-item c =
    let p = err_from_is_err_and c.from_residual-in_err-item.result c.from_residual-in_err-item.ensures.1 in
    rw (p.1, p.2) (ends stop_field c.in_err-item.field-0.0.at c.loop.stops.items c.args.count c.loop.counter c.loop.fields (items_field stop_field c.args.count c.args.fields.now) c.loop-test.true c.in_err-item.ensures c.loop.invariant)

pub loop-preserved : goal.loop-preserved
loop-preserved c =
    rw c.in_ok-push.ensures.items (goes_on stop_field c.loop.stops.items c.args.count c.loop.counter c.loop.fields c.find_stop.new.fields c.in_ok-item.item (items_field stop_field c.args.count c.args.fields.now) c.loop-test.true c.in_ok-item.ensures c.loop.invariant)

pub returns : goal.returns
returns c =
    is_done stop_field c.loop.stops.items c.args.count c.loop.counter c.loop.fields (items_field stop_field c.args.count c.args.fields.now) c.loop-test.false c.loop.invariant
    ∙ ap (λ items. Ok (items, c.loop.fields)) (sym c.from_vec.ensures)
