use Rattle.std.proofs.Common.{◌≡◌, ◌∙◌, ap, sym, subst, arith, if◌then◌else◌, w64, to_z, of_z}
use Rattle.std.specs.Prelude.{ℤ, pos, ◌+ℤ◌}
use Rattle.std.specs.Int.{int_min}
use Rattle.std.proofs.lemmas.Int.{ints, clamps}
use Rattle.rail_types.specs.declared.limits.TheConstants.{FAR_TICK}
use Rattle.label_search.specs.declared.limits.Ahead.{Ahead}
use Rattle.label_search.specs.Limits.{IsAhead}
use Rattle.label_search.proofs.Resting.{nothing_is}
use Rattle.label_search.proofs.Summing.{sum_is}
use Rattle.label_search.proofs.nearing.sum_of.Goals as goal

pub returns-clause-ahead : goal.returns-clause-ahead
returns-clause-ahead c =
    let wait = c.wait_of-wait.result.ticks in
    let way = c.ticks_at-way.result.ticks in
    let rest = c.args.rest.now.ticks in
    let sum : to_z w64 (of_z w64 c.min.result) ≡ int_min ((wait +ℤ way) +ℤ rest) FAR_TICK = omega (arith, ints, clamps, c.min.ensures.value) in
    subst (λ (ticks : ℤ). IsAhead (record { ticks = ticks })) (sym sum)
    (sum_is wait way rest FAR_TICK c.wait_of-wait.ensures.short.0 c.ticks_at-way.ensures.ahead.0 c.requires.rest.0 nothing_is.1)

pub returns-clause-sum : goal.returns-clause-sum
returns-clause-sum c =
    let wait = c.wait_of-wait.result.ticks in
    let way = c.ticks_at-way.result.ticks in
    let rest = c.args.rest.now.ticks in
    let sum : to_z w64 (of_z w64 c.min.result) ≡ int_min ((wait +ℤ way) +ℤ rest) FAR_TICK = omega (arith, ints, clamps, c.min.ensures.value) in
    sum
    ∙ (ap (λ (ticks : ℤ). int_min ((ticks +ℤ way) +ℤ rest) FAR_TICK) c.wait_of-wait.ensures.wait
    ∙ ap (λ (ahead : Ahead). int_min (((if c.args.standing then c.args.call.now.dwell else pos 0) +ℤ ahead.ticks) +ℤ rest) FAR_TICK) c.ticks_at-way.ensures.value)
