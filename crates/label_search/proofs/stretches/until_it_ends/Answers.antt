use Rattle.std.proofs.Common.{arith}
use Rattle.std.proofs.lemmas.Int.{ints, clamps}
use Rattle.label_search.proofs.stretches.until_it_ends.Goals as goal

pub returns-clause-to : goal.returns-clause-to
returns-clause-to c = omega (arith, ints, clamps, c.min.ensures.value)
