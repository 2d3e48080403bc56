use Rattle.std.proofs.Common.{arith}
use Rattle.std.proofs.lemmas.Int.{ints, clamps}
use Rattle.label_search.proofs.firsts.leaving.Goals as goal

pub returns-clause-tick : goal.returns-clause-tick
returns-clause-tick c =
    let ticks = c.requires.ticks in let waited = c.requires.waited in let ahead = c.requires.ahead in
    omega (arith, ints, clamps, c.max.ensures.value)
