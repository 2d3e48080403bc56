use Rattle.std.proofs.Common.{◌≡◌, ◌++◌, drop, flat_map}
use Rattle.stairway_print.specs.Networks.{serves_text, stop_text}
use Rattle.stairway_print.proofs.blocks.push_serves.Given as goal

abbrev pub invariant-serves : goal.invariant-serves
invariant-serves l = l.to.items ++ flat_map (stop_text l.stops) (drop l.stop-index l.serves) ≡ l.fn.to.items ++ serves_text l.stops l.serves
