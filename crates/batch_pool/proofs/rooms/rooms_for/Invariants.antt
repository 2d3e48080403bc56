use Rattle.std.proofs.Common.{◌≡◌, [], All, length}
use Rattle.std.specs.Prelude.{vec_capacity}
use Rattle.batch_pool.proofs.rooms.rooms_for.Given as goal

abbrev pub invariant-loop-made : goal.invariant-loop-made
invariant-loop-made g l = record {
  count : length l.rooms.items ≡ l._made;
  empty : All (λ room. room.items ≡ []) l.rooms.items;
  room : All (λ room. vec_capacity room ≡ l.answers) l.rooms.items;
}
