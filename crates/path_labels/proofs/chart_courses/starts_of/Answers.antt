use Rattle.std.proofs.Common.{get_or}
use Rattle.std.proofs.lemmas.List.Elements.{Contains-get_or}
use Rattle.path_labels.proofs.Starting.{own_chart, sets_out, starts_all, starts_next, starts_none}
use Rattle.path_labels.proofs.chart_courses.starts_of.Goals as goal

pub loop-block-init : goal.loop-block-init
loop-block-init c = starts_none c.args.net.now c.args.settings.now c.args.request.now c.args.chart.now c.requires.chart.train_is c.new-starts.result c.new-starts.ensures

pub add_starts-requires-clause-chart : goal.add_starts-requires-clause-chart
add_starts-requires-clause-chart c = own_chart c.args.net.now c.args.settings.now c.args.request.now.train c.args.chart.now c.requires.chart

pub add_starts-requires-clause-block : goal.add_starts-requires-clause-block
add_starts-requires-clause-block c =
    sets_out c.args.net.now c.args.request.now.origin c.args.followers.now.by_stop c.serving-block-items.result.now c.requires.followers.by_stop c.serving-block-items.ensures
    (get_or c.serving-block-items.result.now c.loop-block.block-index 0) (Contains-get_or c.serving-block-items.result.now c.loop-block.block-index 0 c.loop-block-test.true)

pub loop-block-preserved : goal.loop-block-preserved
loop-block-preserved c =
    starts_next c.args.net.now c.args.settings.now c.args.request.now c.args.chart.now c.requires.chart.train_is c.args.followers.now.by_stop c.serving-block-items.result.now
    c.requires.followers.by_stop c.serving-block-items.ensures c.loop-block.block-index c.loop-block.starts c.add_starts.new.starts c.loop-block-test.true c.loop-block.invariant c.in_ok-add_starts.ensures

pub returns : goal.returns
returns c =
    starts_all c.args.net.now c.args.settings.now c.args.request.now c.args.chart.now c.requires.chart.train_is c.args.followers.now.by_stop c.serving-block-items.result.now
    c.requires.followers.by_stop c.serving-block-items.ensures c.loop-block.block-index c.loop-block.starts c.loop-block-test.false c.loop-block.invariant
