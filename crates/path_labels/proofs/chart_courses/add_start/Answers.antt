use Rattle.std.proofs.Common.{◌∙◌, [], ◌∷◌, ◌++◌, ap, sym, subst, ◌<◌, length}
use Rattle.stair_pieces.specs.declared.places.Place.{Place}
use Rattle.stair_pieces.specs.declared.places.Step.{Step}
use Rattle.label_search.specs.declared.charts.ChartWay.{ChartWay}
use Rattle.path_labels.specs.TrainCharts.{way_in}
use Rattle.path_labels.proofs.Starting.{may_run, start_cut}
use Rattle.path_labels.proofs.chart_courses.add_start.Goals as goal

pub start_way-requires-clause-may : goal.start_way-requires-clause-may
start_way-requires-clause-may c = may_run c.sound_networks_are_run.ensures c.args.net.now c.args.settings.now c.args.chart.now.train c.args.chart.now c.requires.chart

pub charted_way-requires-clause-spot : goal.charted_way-requires-clause-spot
charted_way-requires-clause-spot c =
    start_cut c.args.net.now c.args.settings.now c.args.chart.now.train c.args.start.now
    (may_run c.sound_networks_are_run.ensures c.args.net.now c.args.settings.now c.args.chart.now.train c.args.chart.now c.requires.chart)
    c.requires.chart.timetable c.requires.start

pub charted_way-requires-clause-step : goal.charted_way-requires-clause-step
charted_way-requires-clause-step c = subst (λ (s : Step). s.block < length c.args.net.now.blocks) (sym c.in_ok-way.ensures.step) c.requires.step.within

pub returns : goal.returns
returns c = (
  c.in_ok-way.way,
  c.in_ok-way.ensures.step,
  c.in_ok-way.ensures.leads,
  c.in_ok-push.ensures.ok
      ∙ ap (λ (one : ChartWay). c.args.starts.now ++ one ∷ [])
      (c.in_ok-charted_way.ensures ∙ ap (λ (p : Place). way_in c.args.net.now c.args.settings.now c.args.chart.now.train p c.in_ok-way.way) c.requires.start),
)
