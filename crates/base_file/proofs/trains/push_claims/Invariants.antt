use Rattle.std.proofs.Common.{◌≡◌, ◌++◌, map, take}
use Rattle.base_file.specs.Claims.{of_train}
use Rattle.base_file.proofs.trains.push_claims.Given as goal

abbrev pub invariant-claims : goal.invariant-claims
invariant-claims l = l.to ≡ l.fn.to ++ map (of_train l.train) (take l.claim-index l.claims)
