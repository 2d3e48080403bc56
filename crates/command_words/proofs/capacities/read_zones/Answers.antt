use Rattle.std.proofs.Common.{◌≡◌, ◌∙◌, ◌<◌, ◌^◌, arith, sym}
use Rattle.std.proofs.lemmas.Fmt.{decimal_injective}
use Rattle.command_words.proofs.capacities.read_zones.Goals as goal

-- a text spells one number
pub returns-else-first-last-clause-none : goal.returns-else-first-last-clause-none
returns-else-first-last-clause-none c least greatest are one other =
    let small : greatest < 2 ^ 64 = omega (arith, are.small) in
    let first_is : c.in_ok-first.first ≡ least = decimal_injective _ _ (omega (arith, c.in_ok-first.ensures.within)) (omega (arith, are.ordered, small)) (sym c.in_ok-first.ensures.spelled ∙ one) in
    let last_is : c.in_ok-last.last ≡ greatest = decimal_injective _ _ (omega (arith, c.in_ok-last.ensures.within)) small (sym c.in_ok-last.ensures.spelled ∙ other) in
    omega (arith, first_is, last_is, are.ordered, c.if-first-last.false)
