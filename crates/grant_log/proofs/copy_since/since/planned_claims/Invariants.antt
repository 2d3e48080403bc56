use Rattle.std.proofs.Common.{◌≡◌, map, take}
use Rattle.rail_types.specs.declared.bases.BaseClaim.{BaseClaim}
use Rattle.rail_types.specs.declared.entries.Owner.TheVariants.{Base as of_train}
use Rattle.grant_log.proofs.copy_since.since.planned_claims.Given as goal

abbrev pub invariant-loop-planned : goal.invariant-loop-planned
invariant-loop-planned l = l.all.items ≡ map (λ (one : BaseClaim). (one.claim, of_train one.train)) (take l.planned-index l.planned-items)
