use Rattle.std.proofs.Common.{rules, of_calls, nat_lt}
use Rattle.std.proofs.lemmas.Fn.{always_returns_same}
use Rattle.route_walk.proofs.Parted.{parted_count, parted_below}
use Rattle.route_walk.proofs.counts.below.Goals as goal

pub returns-clause-count : goal.returns-clause-count
returns-clause-count c = parted_count (λ stand. nat_lt stand.position c.args.metre) c.args.row.now c.partition_point.result c.partition_point.ensures.bound (c.partition_point.ensures.partitioned (λ stand. nat_lt stand.position c.args.metre) (always_returns_same _ _ _ (λ a r f k. search (rules, of_calls))) (parted_below c.args.row.now c.args.metre c.requires))
