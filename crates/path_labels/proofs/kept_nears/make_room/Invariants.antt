use Rattle.std.proofs.Common.{◌≡◌, drop}
use Rattle.path_labels.proofs.kept_nears.make_room.Given as goal

abbrev pub invariant-loop : goal.invariant-loop
invariant-loop l = l.kept.items ≡ drop l.counter l.fn.kept.items
