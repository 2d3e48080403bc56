use Rattle.std.proofs.Common.{rules, nat_le, arith}
use Rattle.std.proofs.lemmas.List.Sorted.{IsPartitionPoint-from_clause, IsPartitionedBy-leb}
use Rattle.track_graph.specs.declared.stands.Stand.{Stand}
use Rattle.signal_blocks.proofs.Ahead.{none_to_position, onward, to_position}
use Rattle.signal_blocks.proofs.posts.last_to.Goals as goal

pub returns-then-count-eq0-clause-last : goal.returns-then-count-eq0-clause-last
returns-then-count-eq0-clause-last c =
    let stands = c.args.stands.now in
    let parted = IsPartitionedBy-leb (λ (s : Stand). s.position) stands c.args.position (onward stands c.requires) in
    let point = IsPartitionPoint-from_clause (λ (s : Stand). nat_le s.position c.args.position) _ _ c.partition_point-count.ensures.partitioned parted (λ a r q k. search rules) in
    none_to_position stands c.args.position (λ k d ge lt. point.1 k d (omega arith) lt)

pub returns-clause-last : goal.returns-clause-last
returns-clause-last c =
    let stands = c.args.stands.now in
    let parted = IsPartitionedBy-leb (λ (s : Stand). s.position) stands c.args.position (onward stands c.requires) in
    let point = IsPartitionPoint-from_clause (λ (s : Stand). nat_le s.position c.args.position) _ _ c.partition_point-count.ensures.partitioned parted (λ a r q k. search rules) in
    let last = to_position stands c.args.position c.partition_point-count.result (omega arith) (omega arith) point.0 point.1 in
    rw (← last) (search rules)
