use Rattle.std.proofs.Common.{◌≡◌, drop}
use Rattle.rail_types.specs.FirstClash.{first_clash}
use Rattle.path_recover.specs.claims.Held.{held}
use Rattle.carry_command.proofs.carried_history.holding.first_taken.Given as goal

abbrev pub invariant-loop-claim : goal.invariant-loop-claim
invariant-loop-claim l = first_clash (held l.book) (drop l.claim-index l.claims) ≡ first_clash (held l.book) l.claims
