use Rattle.path_labels.proofs.Starting.{halts_too}
use Rattle.path_labels.proofs.chart_courses.add_starts.Goals as goal

pub add_start-requires-2-clause-step : goal.add_start-requires-2-clause-step
add_start-requires-2-clause-step c = halts_too c.args.net.now c.args.block c.requires.block

pub returns : goal.returns
returns c = (c.add_start.new.starts, c.in_ok-add_start.ensures, c.in_ok-add_start-2.ensures)
