use Rattle.std.proofs.Common.{List, subst}
use Rattle.path_labels.specs.declared.train_charts.TrainChart.{TrainChart}
use Rattle.path_labels.specs.TrainCharts.{IsChartAt}
use Rattle.path_labels.proofs.KeepingCharts.{stay_without, taken_out}
use Rattle.path_labels.proofs.kept_charts.Charts.take.Goals as goal

pub returns-clause-taken : goal.returns-clause-taken
returns-clause-taken c =
    let inside = c.self.inside.kept.items in
    let found : IsChartAt inside c.args.train.now c.in-Some.at = subst (λ (charts : List TrainChart). IsChartAt charts c.args.train.now c.in-Some.at) c.as_slice.ensures.value c.in-Some.ensures.some in
    taken_out c.args.self.now inside c.remove-one.new.self.items c.args.train.now c.in-Some.at c.remove-one.result c.self.view_is found c.remove-one.ensures.value c.remove-one.ensures.items

pub returns-clause-kept : goal.returns-clause-kept
returns-clause-kept c =
    let inside = c.self.inside.kept.items in
    let found : IsChartAt inside c.args.train.now c.in-Some.at = subst (λ (charts : List TrainChart). IsChartAt charts c.args.train.now c.in-Some.at) c.as_slice.ensures.value c.in-Some.ensures.some in
    stay_without c.args.self.now c.remove-one.new.self.items c.args.train.now c.remove-one.result
    (taken_out c.args.self.now inside c.remove-one.new.self.items c.args.train.now c.in-Some.at c.remove-one.result c.self.view_is found c.remove-one.ensures.value c.remove-one.ensures.items)
