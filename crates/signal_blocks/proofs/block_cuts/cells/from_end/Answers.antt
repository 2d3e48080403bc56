use Rattle.std.proofs.Common.{rules, nat_lt}
use Rattle.std.proofs.lemmas.List.Sorted.{IsPartitionPoint-from_clause, IsPartitionedBy-ltb}
use Rattle.signal_blocks.proofs.Releases.{first_at}
use Rattle.signal_blocks.proofs.block_cuts.cells.from_end.Goals as goal

pub returns : goal.returns
returns c =
    let parted = IsPartitionedBy-ltb (λ x. x) _ c.args.end c.requires in
    let point = IsPartitionPoint-from_clause (λ x. nat_lt x c.args.end) _ _ c.partition_point-first.ensures.partitioned parted (λ a r q k. search rules) in
    let first = first_at c.args.end _ _ point.0 point.1 in
    rw (← first) (search rules)
