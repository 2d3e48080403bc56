use Rattle.std.proofs.Common.{rules, of_calls, get_or, ◌≡◌, true, false}
use Rattle.std.specs.List.Sorted.{IsPartitionPoint}
use Rattle.std.proofs.lemmas.Fn.{always_returns_same}
use Rattle.refusal_proof.proofs.Numbering.{begins_by, begun, not_begun, parted}
use Rattle.refusal_proof.proofs.labels.count_begun.Goals as goal

-- the labels are parted by whether they have begun
point : (c : goal.After-partition_point) → IsPartitionPoint (λ one. begins_by one c.args.number c.args.at.now.from ≡ true) (λ one. begins_by one c.args.number c.args.at.now.from ≡ false) c.args.labels.now c.partition_point.result
point c = c.partition_point.ensures.partitioned (λ one. begins_by one c.args.number c.args.at.now.from) (always_returns_same _ _ _ (λ a r f k. search (rules, of_calls))) (parted c.args.labels.now c.args.number c.args.at.now.from c.requires)

pub returns-clause-before : goal.returns-clause-before
returns-clause-before c k other low high = begun (get_or c.args.labels.now k other) c.args.number c.args.at.now.from ((point c).0 k other low high)

pub returns-clause-after : goal.returns-clause-after
returns-clause-after c k other low high = not_begun (get_or c.args.labels.now k other) c.args.number c.args.at.now.from ((point c).1 k other low high)
