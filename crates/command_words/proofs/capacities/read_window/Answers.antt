use Rattle.std.proofs.Common.{◌≡◌, ◌∙◌, ◌<◌, ◌^◌, ℕ, pos, arith, sym}
use Rattle.std.proofs.lemmas.Int.{ints}
use Rattle.std.proofs.lemmas.Fmt.{decimal_injective}
use Rattle.rail_types.specs.Limits.{IsTick}
use Rattle.command_words.proofs.capacities.read_window.Goals as goal

tick_is_small : (tick : ℕ) → IsTick (pos tick) → tick < 2 ^ 64
tick_is_small tick within = omega (arith, ints)

-- a text spells one number
pub returns-else-from-to-clause-none : goal.returns-else-from-to-clause-none
returns-else-from-to-clause-none c begin end are one other =
    let small : end < 2 ^ 64 = tick_is_small end are.within in
    let from_is : c.in_ok-from.from ≡ begin = decimal_injective _ _ (omega (arith, c.in_ok-from.ensures.within)) (omega (arith, are.ordered, small)) (sym c.in_ok-from.ensures.spelled ∙ one) in
    let to_is : c.in_ok-to.to ≡ end = decimal_injective _ _ (omega (arith, c.in_ok-to.ensures.within)) small (sym c.in_ok-to.ensures.spelled ∙ other) in
    omega (arith, from_is, to_is, are.ordered, c.if-from-to.false)
