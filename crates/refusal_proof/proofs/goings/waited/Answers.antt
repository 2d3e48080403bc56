use Rattle.std.proofs.Common.{arith}
use Rattle.std.proofs.lemmas.Int.{ints, clamps}
use Rattle.refusal_proof.proofs.goings.waited.Goals as goal

pub returns-clause-from : goal.returns-clause-from
returns-clause-from c = omega (arith, ints, clamps, c.min.ensures.value)

pub returns-clause-to : goal.returns-clause-to
returns-clause-to c = omega (arith, ints, clamps, c.min-2.ensures.value)

pub returns-clause-bound : goal.returns-clause-bound
returns-clause-bound c = let low = c.requires.wait.0 in let most = c.requires.settings.horizon.1 in omega (arith, ints, clamps, c.min-2.ensures.value, low, most)
