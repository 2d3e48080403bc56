use Rattle.std.proofs.Common.{◌∙◌, ℕ, ap, subst, get_or, Bool}
use Rattle.std.specs.Prelude.{ℤ, ◌≤ℤ◌}
use Rattle.std.proofs.lemmas.List.{get_or_default}
use Rattle.std.proofs.lemmas.List.Elements.{AllWithin-more}
use Rattle.label_search.specs.Charts.{spot_at}
use Rattle.label_search.specs.Nearing.{sum_ahead}
use Rattle.label_search.proofs.Resting.{at_most}
use Rattle.label_search.proofs.nearing.least_ahead.Goals as goal

pub loop-number-preserved : goal.loop-number-preserved
loop-number-preserved c =
    let spots = c.args.chart.now.spots in
    let call = c.args.call.now in
    let near = c.args.near.now in
    let rest = c.args.rest.now in
    let behind = c.args.behind.now in
    let at = c.loop-number.number-index in
    let least = c.lesser-least.result.ticks in
    record {
      ahead = c.lesser-least.ensures.ahead;
      least = AllWithin-more (λ (spot : ℕ). least ≤ℤ sum_ahead (spot_at spots spot).standing call near rest spot) behind 0 at
          (λ k d low high. at_most least c.loop-number.least.ticks (sum_ahead (spot_at spots (get_or behind k d)).standing call near rest (get_or behind k d)) c.lesser-least.ensures.one (c.loop-number.invariant.least k d low high))
          (λ d. subst (λ (spot : ℕ). least ≤ℤ sum_ahead (spot_at spots spot).standing call near rest spot) (get_or_default behind at 0 d c.loop-number-test.true)
          (subst (λ (ticks : ℤ). least ≤ℤ ticks) (c.sum_of-ahead.ensures.sum ∙ ap (λ (standing : Bool). sum_ahead standing call near rest (get_or behind at 0)) c.stands_at.ensures) c.lesser-least.ensures.other));
    }
