use Rattle.std.proofs.Common.{◌∙◌, arith}
use Rattle.tail_states.proofs.Spotting.{found_still, too_many}
use Rattle.tail_states.proofs.listed_spots.spot_behind.Goals as goal

pub returns-then-count-gt-MAX_SPOTS-clause-many : goal.returns-then-count-gt-MAX_SPOTS-clause-many
returns-then-count-gt-MAX_SPOTS-clause-many c =
    let many = too_many c.args.net.now c.args.train.now c.args.members.now c.intern.new.self c.in_ok-after.after c.requires.found c.in_ok-after.ensures.is c.in_ok-number.ensures.grown c.len-count.ensures.distinct (omega (arith, c.if-count-gt-MAX_SPOTS.true, c.len-count.ensures.count)) in
    (c.len-count.ensures.count ∙ many.0, many.1)

pub returns-clause-found : goal.returns-clause-found
returns-clause-found c =
    found_still c.args.net.now c.args.train.now c.args.members.now c.intern.new.self c.in_ok-after.after c.requires.found c.in_ok-after.ensures.is c.in_ok-number.ensures.grown c.len-count.ensures.distinct (omega (arith, c.if-count-gt-MAX_SPOTS.false, c.len-count.ensures.count))
