use Rattle.blocking_time.proofs.Sharing.{joined_fit_alike}
use Rattle.blocking_time.proofs.laws.joined_claims_fit_alike.Goals as goal

pub returns : goal.returns
returns c = joined_fit_alike
