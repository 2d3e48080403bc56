use Rattle.std.proofs.Common.{◌≡◌, ◌∙◌, ap, pos}
use Rattle.label_search.specs.declared.charts.ChartCall.{ChartCall}
use Rattle.label_search.specs.Endings.{last_call}
use Rattle.label_search.proofs.Shutting.{no_path, spots_can_end, starts_can_end}
use Rattle.label_search.proofs.endings.ends_are_shut.Goals as goal

pub starts_are_shut-requires-clause-ways : goal.starts_are_shut-requires-clause-ways
starts_are_shut-requires-clause-ways c =
    let blocks : c.as_slice-blocks.result.now ≡ (last_call c.args.calls.now).blocks = c.as_slice-blocks.ensures ∙ ap (λ (call : ChartCall). call.blocks) c.last_of.ensures in
    starts_can_end c.args.chart.now.spots c.args.starts.now c.args.calls.now (pos c.args.horizon) c.args.book.now c.requires.plan
    c.as_slice-blocks.result.now c.as_slice.result.now c.len-levels.result blocks c.as_slice.ensures c.len-levels.ensures

pub spots_are_shut-requires-clause-spots : goal.spots_are_shut-requires-clause-spots
spots_are_shut-requires-clause-spots c =
    let blocks : c.as_slice-blocks.result.now ≡ (last_call c.args.calls.now).blocks = c.as_slice-blocks.ensures ∙ ap (λ (call : ChartCall). call.blocks) c.last_of.ensures in
    spots_can_end c.args.chart.now.spots c.args.starts.now c.args.calls.now (pos c.args.horizon) c.args.book.now c.requires.plan
    c.as_slice-blocks.result.now c.as_slice-2.result.now blocks (c.as_slice-2.ensures ∙ c.requires.lasts) c.requires.called

pub returns : goal.returns
returns c holds =
    let blocks : c.as_slice-blocks.result.now ≡ (last_call c.args.calls.now).blocks = c.as_slice-blocks.ensures ∙ ap (λ (call : ChartCall). call.blocks) c.last_of.ensures in
    no_path c.args.chart.now.spots c.args.starts.now c.args.calls.now (pos c.args.horizon) c.args.trip.now c.args.book.now c.requires.called c.requires.plan
    c.as_slice-blocks.result.now c.as_slice-2.result.now c.as_slice.result.now c.len-levels.result blocks (c.as_slice-2.ensures ∙ c.requires.lasts) c.as_slice.ensures c.len-levels.ensures
    (c.starts_are_shut.ensures c.if-not-starts_are_shut.false) (c.spots_are_shut.ensures holds)
