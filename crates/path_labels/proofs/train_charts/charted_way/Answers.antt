use Rattle.std.proofs.Common.{◌≡◌, ◌∙◌, pos, ◌+ℤ◌, arith, w64}
use Rattle.std.proofs.lemmas.Int.{ints}
use mir.Val.{of_z, to_z}
use Rattle.path_labels.proofs.Charting.{ending_is, way_is}
use Rattle.path_labels.proofs.train_charts.charted_way.Goals as goal

pub returns : goal.returns
returns c =
    let net = c.args.net.now in
    let settings = c.args.settings.now in
    let train = c.args.train.now in
    let spot = c.args.spot.now in
    let way = c.args.way.now in
    let halts = c.is_still-halts.result in
    let ticks = c.ticks_of-ticks.result in
    let told = c.in_ok-ending.ensures in
    let begins : to_z w64 (of_z w64 c.ticks_of-ticks.result) ≡ c.ticks_of-ticks.result = omega (arith, ints) in
    let ends : to_z w64 (of_z w64 (to_z w64 (of_z w64 c.ticks_of-ticks.result) +ℤ to_z w64 (of_z w64 c.from.result))) ≡ to_z w64 (of_z w64 c.ticks_of-ticks.result) +ℤ pos c.args.settings.now.release = omega (arith, ints, c.from.ensures, c.ticks_of-ticks.ensures) in
    let took = begins ∙ c.ticks_of-ticks.ensures in
    way_is net settings train spot way halts (to_z w64 (of_z w64 ticks)) c.from_vec.result c.from_vec-2.result c.is_still-halts.ensures took (c.from_vec.ensures ∙ c.in_ok-claims.ensures)
    (c.from_vec-2.ensures ∙ ending_is net settings train spot way.step way.step.exit halts c.in_ok-after.after c.as_slice.result.now c.in_ok-ending.ending.items
    (to_z w64 (of_z w64 ticks)) (to_z w64 (of_z w64 (to_z w64 (of_z w64 ticks) +ℤ to_z w64 (of_z w64 c.from.result))))
    c.is_still-halts.ensures c.in_ok-after.ensures.value (c.as_slice.ensures.value ∙ c.in_ok-claims.ensures) took ends told.halted told.rolling)
