use Rattle.label_search.proofs.Limiting.{closed_of_unlimited, below_of_closed, unlimited_none}
use Rattle.label_search.proofs.laws.closed_below_all_is_closed.Goals as goal

pub returns-clause-unlimited : goal.returns-clause-unlimited
returns-clause-unlimited c plan limits none behind = unlimited_none plan limits none behind

pub returns-clause-same : goal.returns-clause-same
returns-clause-same c plan trip book limits members all =
    (below_of_closed plan limits trip book members, closed_of_unlimited plan limits trip book members all)
