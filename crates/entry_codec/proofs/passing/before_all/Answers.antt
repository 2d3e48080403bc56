use Rattle.std.proofs.Common.{refl}
use Rattle.entry_codec.proofs.passing.before_all.Goals as goal

pub returns : goal.returns
returns c = refl
