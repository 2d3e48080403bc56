use Rattle.std.proofs.Common.{arith}
use Rattle.std.proofs.lemmas.Int.{ints, clamps}
use Rattle.label_search.proofs.endings.arriving.Goals as goal

pub returns-clause-from : goal.returns-clause-from
returns-clause-from c = omega (arith, ints, clamps, c.max.ensures.value)

pub returns-clause-to : goal.returns-clause-to
returns-clause-to c = omega (arith, ints, clamps, c.min.ensures.value)
