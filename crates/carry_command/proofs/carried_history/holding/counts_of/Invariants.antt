use Rattle.std.proofs.Common.{◌≡◌, length, map, take}
use Rattle.carry_command.proofs.carried_history.holding.counts_of.Given as goal

abbrev pub invariant-loop-zone : goal.invariant-loop-zone
invariant-loop-zone l = l.counts.items ≡ map (λ zone. length zone.claims) (take l.zone l.fn.claims)
