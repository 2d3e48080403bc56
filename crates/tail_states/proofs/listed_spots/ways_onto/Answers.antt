use Rattle.std.proofs.Common.{sym, subst, [], append-nil}
use Rattle.std.proofs.lemmas.List.Elements.{Contains-get_or}
use Rattle.tail_states.specs.Spots.{AreWaysOver}
use Rattle.tail_states.proofs.Adding.{grows_twice, take_whole}
use Rattle.tail_states.proofs.Striding.{over_none, over_next, from_over, rolls_onto}
use Rattle.tail_states.proofs.listed_spots.ways_onto.Goals as goal

pub loop-block-init : goal.loop-block-init
loop-block-init c = record {
  found = c.requires.found;
  grown = ([], sym (append-nil c.args.members.now));
  over = subst (AreWaysOver c.args.net.now c.args.train.now c.args.members.now c.args.spot.now []) (sym c.new-ways.ensures) (over_none c.args.net.now c.args.train.now c.args.spot.now c.args.members.now);
}

pub add_ways-requires-clause-block : goal.add_ways-requires-clause-block
add_ways-requires-clause-block c =
    rolls_onto c.args.net.now c.args.spot.now c.args.blocks.now c.requires.blocks _ (Contains-get_or c.args.blocks.now c.loop-block.block-index 0 c.loop-block-test.true)

pub loop-block-preserved : goal.loop-block-preserved
loop-block-preserved c =
    let told = c.in_ok-add_ways.ensures in
    record {
      found = told.found;
      grown = grows_twice c.args.members.now c.loop-block.members c.add_ways.new.members c.loop-block.invariant.grown told.grown;
      over = over_next c.args.net.now c.args.train.now c.args.spot.now c.loop-block.members c.add_ways.new.members c.args.blocks.now c.loop-block.block-index c.loop-block.ways c.add_ways.new.ways c.loop-block-test.true c.loop-block.invariant.over told.grown told.added;
    }

pub returns-clause-ways : goal.returns-clause-ways
returns-clause-ways c =
    from_over c.args.net.now c.args.train.now c.args.spot.now c.loop-block.members c.args.blocks.now c.loop-block.ways c.requires.blocks
    (subst (λ l. AreWaysOver c.args.net.now c.args.train.now c.loop-block.members c.args.spot.now l c.loop-block.ways) (take_whole c.args.blocks.now c.loop-block.block-index c.loop-block-test.false) c.loop-block.invariant.over)
