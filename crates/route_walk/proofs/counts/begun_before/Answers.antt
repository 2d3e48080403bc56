use Rattle.std.proofs.Common.{rules, of_calls, nat_lt}
use Rattle.std.proofs.lemmas.Fn.{always_returns_same}
use Rattle.route_walk.proofs.Parted.{parted_count, parted_begins}
use Rattle.route_walk.proofs.counts.begun_before.Goals as goal

pub returns-clause-count : goal.returns-clause-count
returns-clause-count c = parted_count (λ piece. nat_lt piece.begin c.args.metre) c.args.pieces.now c.partition_point.result c.partition_point.ensures.bound (c.partition_point.ensures.partitioned (λ piece. nat_lt piece.begin c.args.metre) (always_returns_same _ _ _ (λ a r f k. search (rules, of_calls))) (parted_begins c.args.pieces.now c.args.metre c.requires))
