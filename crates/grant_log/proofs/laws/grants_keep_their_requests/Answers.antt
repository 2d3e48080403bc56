use Rattle.grant_log.proofs.Legals.{kept_request}
use Rattle.grant_log.proofs.laws.grants_keep_their_requests.Goals as goal

pub returns : goal.returns
returns c = record { requests = kept_request c.first_clashes_are_first.ensures.none c.first_clashes_are_first.ensures.some }
