use Rattle.std.proofs.Common.{◌≡◌, ◌++◌, drop, flat_map}
use Rattle.stairway_print.specs.Stairs.{claim_line, claim_lines}
use Rattle.stairway_print.proofs.stairs.push_claims.Given as goal

abbrev pub invariant-claims : goal.invariant-claims
invariant-claims l =
    l.to.items ++ flat_map (claim_line l.run) (drop l.claim-index l.claims)
    ≡ l.fn.to.items ++ claim_lines l.run l.claims
