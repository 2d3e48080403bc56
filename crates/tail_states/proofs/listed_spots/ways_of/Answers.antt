use Rattle.std.proofs.Common.{◌∙◌, sym, subst}
use Rattle.tail_states.specs.Spots.{AreWaysFrom}
use Rattle.tail_states.proofs.Adding.{same_some}
use Rattle.tail_states.proofs.Spotting.{spot_from, spot_of_member}
use Rattle.tail_states.proofs.listed_spots.ways_of.Goals as goal

pub blocks_behind-blocks-requires-clause-numbers : goal.blocks_behind-blocks-requires-clause-numbers
blocks_behind-blocks-requires-clause-numbers c = (spot_of_member c.args.net.now c.args.train.now c.args.members.now c.requires.found c.args.number c.get.result.now c.in_ok-spot.spot c.get.ensures c.in_ok-spot.ensures).under.numbers

pub blocks_behind-blocks-requires-clause-gone : goal.blocks_behind-blocks-requires-clause-gone
blocks_behind-blocks-requires-clause-gone c = (spot_of_member c.args.net.now c.args.train.now c.args.members.now c.requires.found c.args.number c.get.result.now c.in_ok-spot.spot c.get.ensures c.in_ok-spot.ensures).gone

pub ways_onto-requires-clause-spot : goal.ways_onto-requires-clause-spot
ways_onto-requires-clause-spot c = spot_from c.args.net.now c.args.train.now c.in_ok-spot.spot (spot_of_member c.args.net.now c.args.train.now c.args.members.now c.requires.found c.args.number c.get.result.now c.in_ok-spot.spot c.get.ensures c.in_ok-spot.ensures)

pub returns-clause-ways : goal.returns-clause-ways
returns-clause-ways c = λ spot is.
    let same = c.in_ok-spot.ensures ∙ same_some (sym c.get.ensures ∙ is) in
    subst (λ p. AreWaysFrom c.args.net.now c.args.train.now c.ways_onto.new.members p c.in_ok-ways.ways) same c.in_ok-ways.ensures.ways
