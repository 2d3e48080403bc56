use Rattle.plan_core.proofs.Running.{fronts_takes, marks_takes, points_runs}
use Rattle.plan_core.proofs.laws.points_go_back_by_loss_alone.Goals as goal

pub returns-clause-points : goal.returns-clause-points
returns-clause-points c = points_runs

pub returns-clause-marks : goal.returns-clause-marks
returns-clause-marks c = marks_takes

pub returns-clause-fronts : goal.returns-clause-fronts
returns-clause-fronts c = fronts_takes
