use Rattle.std.proofs.Common.{List, ap}
use Rattle.path_labels.specs.declared.train_charts.TrainChart.{TrainChart}
use Rattle.ask_turns.specs.declared.client_turns.clients.Client.{Client}
use Rattle.ask_turns.proofs.client_turns.clients.Client.note_wide.Goals as goal

pub returns : goal.returns
returns c =
    let client : Client = c.args.self.now in
    ap (λ (charts : List TrainChart). record client { charts = charts }) c.note_wide.ensures
