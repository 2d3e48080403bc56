use Rattle.std.proofs.lemmas.Bool.Decides.{same_from_decides}
use Rattle.grant_log.proofs.SameContents.{same_content}
use Rattle.grant_log.proofs.contents.has_same_content.Goals as goal

pub returns : goal.returns
returns c = same_from_decides _ _ c.have_same_content.ensures (same_content c.args.one.now c.args.other.now)
