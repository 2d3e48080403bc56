use Rattle.std.proofs.Common.{◌∙◌, arith, filter, take_all, ap}
use Rattle.std.proofs.lemmas.Grind.{common_steps}
use Rattle.capacity_406.specs.InsideStretch.{is_wanted}
use Rattle.capacity_406.proofs.stretch_trains.selecting.wanted_claims.Goals as goal

pub loop-one-init : goal.loop-one-init
loop-one-init c = c.new-wanted.ensures.items

pub loop-one-preserved : goal.loop-one-preserved
loop-one-preserved c = grind (arith, common_steps)

pub returns : goal.returns
returns c =
    c.loop-one.invariant
    ∙ ap (filter (is_wanted c.args.history.now.entries c.args.stretch.now)) (take_all c.loop-one.one-index c.args.held.now c.loop-one-test.false)
