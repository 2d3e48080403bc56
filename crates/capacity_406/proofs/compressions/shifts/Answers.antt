use Rattle.std.proofs.Common.{◌∙◌, arith, take_all, ap}
use Rattle.std.proofs.lemmas.Grind.{common_steps}
use Rattle.capacity_406.specs.Inside.{shifts_of}
use Rattle.capacity_406.proofs.compressions.shifts.Goals as goal

pub loop-place-init : goal.loop-place-init
loop-place-init c = c.new-shifts.ensures.items

pub loop-place-preserved : goal.loop-place-preserved
loop-place-preserved c = grind (arith, common_steps)

pub returns : goal.returns
returns c =
    c.loop-place.invariant
    ∙ ap shifts_of (take_all c.loop-place.place-index c.args.places.now c.loop-place-test.false)
