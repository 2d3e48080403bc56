use Rattle.std.proofs.Common.{arith}
use Rattle.std.proofs.lemmas.Int.{ints, clamps}
use Rattle.refusal_proof.proofs.moves.within_horizon.Goals as goal

pub returns-clause-to : goal.returns-clause-to
returns-clause-to c = omega (arith, ints, clamps, c.min.ensures.value)
