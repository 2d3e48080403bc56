use Rattle.rail_types.proofs.Clashings.{none_fits, some_is_first, alone_is_first, apart_is_first, alike, skips, in_order}
use Rattle.rail_types.proofs.laws.first_clashes_are_first.Goals as goal

pub returns-clause-none : goal.returns-clause-none
returns-clause-none c held claims = none_fits claims held

pub returns-clause-some : goal.returns-clause-some
returns-clause-some c held claims = some_is_first claims held

pub returns-clause-alone : goal.returns-clause-alone
returns-clause-alone c held claims = alone_is_first claims held

pub returns-clause-apart : goal.returns-clause-apart
returns-clause-apart c held claims = apart_is_first claims held

pub returns-clause-alike : goal.returns-clause-alike
returns-clause-alike c = alike

pub returns-clause-skips : goal.returns-clause-skips
returns-clause-skips c = skips

pub returns-clause-in_order : goal.returns-clause-in_order
returns-clause-in_order c = in_order
