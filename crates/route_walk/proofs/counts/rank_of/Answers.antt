use Rattle.std.proofs.Common.{rules, of_calls}
use Rattle.std.proofs.lemmas.Fn.{always_returns_same}
use Rattle.route_walk.specs.Counts.{stands_before}
use Rattle.route_walk.proofs.Parted.{parted_count, parted_rank}
use Rattle.route_walk.proofs.counts.rank_of.Goals as goal

pub returns-clause-count : goal.returns-clause-count
returns-clause-count c = parted_count (stands_before c.args.metre c.args.number) c.args.row.now c.partition_point.result c.partition_point.ensures.bound (c.partition_point.ensures.partitioned (stands_before c.args.metre c.args.number) (always_returns_same _ _ _ (λ a r f k. search (rules, of_calls))) (parted_rank c.args.row.now c.args.metre c.args.number c.requires))
