use Rattle.std.proofs.Common.{refl}
use Rattle.base_file.proofs.Moved.{none_clash}
use Rattle.base_file.proofs.Found.{found_at}
use Rattle.base_file.proofs.overlaps.pair_in.Goals as goal

pub returns-in_default : goal.returns-in_default
returns-in_default c = none_clash c.args.sorted.now c.requires (c.in_default.ensures.none refl)

pub returns : goal.returns
returns c = found_at c.args.sorted.now _ c.requires c.in-Some.at c.in-Some.ensures.some _ c.claim_at-next.ensures c.least-pair.result c.least-pair.ensures
