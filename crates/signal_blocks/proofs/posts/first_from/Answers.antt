use Rattle.std.proofs.Common.{rules, nat_lt}
use Rattle.std.proofs.lemmas.List.Sorted.{IsPartitionPoint-from_clause, IsPartitionedBy-ltb}
use Rattle.track_graph.specs.declared.stands.Stand.{Stand}
use Rattle.signal_blocks.proofs.Ahead.{from_position, onward}
use Rattle.signal_blocks.proofs.posts.first_from.Goals as goal

pub returns-clause-first : goal.returns-clause-first
returns-clause-first c =
    let stands = c.args.stands.now in
    let parted = IsPartitionedBy-ltb (λ (s : Stand). s.position) stands c.args.position (onward stands c.requires) in
    let point = IsPartitionPoint-from_clause (λ (s : Stand). nat_lt s.position c.args.position) _ _ c.partition_point-first.ensures.partitioned parted (λ a r q k. search rules) in
    let first = from_position stands c.args.position c.partition_point-first.result point.0 point.1 in
    rw (← first) (search rules)
