use Rattle.std.proofs.Common.{◌∙◌, ap, sym}
use Rattle.label_search.specs.Charts.{spot_at}
use Rattle.label_search.specs.Endings.{has_call}
use Rattle.label_search.proofs.Shutting.{none_put, one_put}
use Rattle.label_search.proofs.endings.push_before.Goals as goal

pub returns-then-not-has_call : goal.returns-then-not-has_call
returns-then-not-has_call c =
    let blocks = c.args.blocks.now in
    none_put (has_call blocks (spot_at c.args.chart.now.spots c.args.number).ways) c.args.number c.args.before.now
    (sym (c.has_call.ensures ∙ ap (has_call blocks) c.ways_from.ensures) ∙ c.if-not-has_call.true)

pub returns : goal.returns
returns c =
    let blocks = c.args.blocks.now in
    one_put (has_call blocks (spot_at c.args.chart.now.spots c.args.number).ways) c.args.number c.args.before.now c.push.new.self
    (sym (c.has_call.ensures ∙ ap (has_call blocks) c.ways_from.ensures) ∙ c.if-not-has_call.false) c.in_ok-push.ensures.ok
