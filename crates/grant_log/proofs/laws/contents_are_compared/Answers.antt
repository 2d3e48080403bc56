use Rattle.grant_log.proofs.SameContents.{same_content}
use Rattle.grant_log.proofs.laws.contents_are_compared.Goals as goal

pub returns : goal.returns
returns c = same_content
