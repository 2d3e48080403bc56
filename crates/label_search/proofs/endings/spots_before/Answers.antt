use Rattle.std.proofs.Common.{◌∙◌, [], ◌∷◌, ◌++◌, ℕ, List, ap, cond, sym}
use Rattle.label_search.specs.Charts.{spot_at}
use Rattle.label_search.specs.Endings.{has_call}
use Rattle.label_search.proofs.Shutting.{filter_range_more}
use Rattle.label_search.proofs.endings.spots_before.Goals as goal

pub loop-number-preserved : goal.loop-number-preserved
loop-number-preserved c =
    let spots = c.args.chart.now.spots in
    let blocks = c.args.blocks.now in
    let at = c.loop-number.number in
    c.in_ok-push_before.ensures
    ∙ ap (λ (list : List ℕ). list ++ cond (has_call blocks (spot_at spots at).ways) (at ∷ []) []) c.loop-number.invariant
    ∙ sym (filter_range_more (λ (n : ℕ). has_call blocks (spot_at spots n).ways) at)
