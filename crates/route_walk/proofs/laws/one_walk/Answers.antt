use Rattle.route_walk.proofs.OneWalk as one
use Rattle.route_walk.proofs.laws.one_walk.Goals as goal

pub returns-clause-walks : goal.returns-clause-walks
returns-clause-walks c = λ infra layout number walk other lay is is'. one.one_walk infra layout lay number walk other is is'

pub returns-clause-faults : goal.returns-clause-faults
returns-clause-faults c = λ infra layout number fault other lay m m' tells tells'. one.one_fault infra layout lay number fault other m m' tells tells'

pub returns-clause-either : goal.returns-clause-either
returns-clause-either c = λ infra layout number walk fault lay m is tells. one.walk_or_fault infra layout lay number walk fault m is tells
