use Rattle.blocking_time.proofs.Hulls.{joined_are_one}
use Rattle.blocking_time.proofs.laws.joined_claims_are_one.Goals as goal

pub returns : goal.returns
returns c = joined_are_one
