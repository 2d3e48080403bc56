use Rattle.path_labels.proofs.Telling.{planned_moves}
use Rattle.path_labels.proofs.plan_searches.plan_is_ready.Goals as goal

pub returns-clause-moves : goal.returns-clause-moves
returns-clause-moves c =
    let all = c.requires.planned in
    planned_moves c.args.net.now c.args.settings.now c.args.request.now c.args.places.now c.args.plan.now (record { moves = all.moves; planned = all.planned })
