use Rattle.std.proofs.Common.{arith}
use Rattle.std.proofs.lemmas.Int.{ints, clamps}
use Rattle.std.specs.Int.{int_max}
use Rattle.rail_types.proofs.laws.clashes_share_a_tick.Goals as goal

-- the later of the two begins is in both
pub returns-clause-shared : goal.returns-clause-shared
returns-clause-shared c a b some_a some_b overlap =
    (int_max a.from b.from, (omega (arith, ints, clamps), omega (arith, ints, clamps)), (omega (arith, ints, clamps), omega (arith, ints, clamps)))
