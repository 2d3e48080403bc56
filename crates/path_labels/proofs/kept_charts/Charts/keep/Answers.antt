use Rattle.std.proofs.Common.{◌∙◌, List, [], ◌∷◌, ◌++◌, ap}
use Rattle.path_labels.specs.declared.train_charts.TrainChart.{TrainChart}
use Rattle.path_labels.specs.TrainCharts.{with_chart_room}
use Rattle.path_labels.proofs.KeepingCharts.{stay_with}
use Rattle.path_labels.proofs.kept_charts.Charts.keep.Goals as goal

pub returns-clause-kept : goal.returns-clause-kept
returns-clause-kept c =
    let chart = c.args.chart in
    stay_with c.args.self.now c.push_reserved.new.self.items chart
    (c.push_reserved.ensures.items ∙ ap (λ (charts : List TrainChart). charts ++ chart ∷ []) (c.make_room.ensures.items ∙ ap with_chart_room c.self.view_is))
