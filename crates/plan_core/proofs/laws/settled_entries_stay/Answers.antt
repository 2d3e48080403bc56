use Rattle.plan_core.proofs.Running.{crash_takes, settled_count, settled_stay}
use Rattle.plan_core.proofs.laws.settled_entries_stay.Goals as goal

pub returns-clause-stay : goal.returns-clause-stay
returns-clause-stay c = settled_stay

pub returns-clause-count : goal.returns-clause-count
returns-clause-count c = settled_count

pub returns-clause-crash : goal.returns-clause-crash
returns-clause-crash c = crash_takes
