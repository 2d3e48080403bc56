use Rattle.std.proofs.Common.{◌≡◌, ◌≤◌, ◌-◌, [], length, All}
use Rattle.tail_states.proofs.adjacency.BlockLists.empty.Given as goal

abbrev pub invariant-loop-alloc : goal.invariant-loop-alloc
invariant-loop-alloc l = record {
  within : length l.lists.items ≤ l.count;
  empty : All (λ blocks. blocks ≡ []) l.lists.items;
}

abbrev pub decreases-loop-alloc : goal.decreases-loop-alloc
decreases-loop-alloc l = l.count - length l.lists.items
