use Rattle.grant_log.proofs.Sayings.{says, only, taken_else}
use Rattle.grant_log.proofs.laws.verdicts_say_what_they_mean.Goals as goal

pub returns-clause-says : goal.returns-clause-says
returns-clause-says c = says c.first_clashes_are_first.ensures.none c.first_clashes_are_first.ensures.some

pub returns-clause-only : goal.returns-clause-only
returns-clause-only c = only c.first_clashes_are_first.ensures.none

pub returns-clause-taken : goal.returns-clause-taken
returns-clause-taken c = taken_else c.first_clashes_are_first.ensures.none
