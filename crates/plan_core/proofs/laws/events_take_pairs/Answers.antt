use Rattle.plan_core.proofs.Running.{event_pair, failed_turn, settled_turn, turn_pair}
use Rattle.plan_core.proofs.laws.events_take_pairs.Goals as goal

pub returns-clause-event : goal.returns-clause-event
returns-clause-event c = event_pair

pub returns-clause-turn : goal.returns-clause-turn
returns-clause-turn c = turn_pair

pub returns-clause-settled : goal.returns-clause-settled
returns-clause-settled c = settled_turn

pub returns-clause-failed : goal.returns-clause-failed
returns-clause-failed c = failed_turn
