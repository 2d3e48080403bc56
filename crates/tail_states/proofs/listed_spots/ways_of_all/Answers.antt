use Rattle.std.proofs.Common.{[], sym, subst, arith, append-nil}
use Rattle.tail_states.specs.Spots.{AreFirstWays}
use Rattle.tail_states.proofs.Adding.{grows_twice}
use Rattle.tail_states.proofs.Striding.{firsts_none, firsts_next}
use Rattle.tail_states.proofs.listed_spots.ways_of_all.Goals as goal

pub loop-alloc-init : goal.loop-alloc-init
loop-alloc-init c = record {
  found = c.requires.found;
  grown = ([], sym (append-nil c.args.members.now));
  firsts = subst (AreFirstWays c.args.net.now c.args.train.now c.args.members.now) (sym c.new-ways.ensures.items) (firsts_none c.args.net.now c.args.train.now c.args.members.now);
}

pub loop-alloc-preserved : goal.loop-alloc-preserved
loop-alloc-preserved c =
    let told = c.in_ok-ways_of.ensures in
    record {
      found = told.found;
      grown = grows_twice c.args.members.now c.loop-alloc.members c.ways_of.new.members c.loop-alloc.invariant.grown told.grown;
      firsts = subst (AreFirstWays c.args.net.now c.args.train.now c.ways_of.new.members) (sym c.in_ok-push.ensures.items)
          (firsts_next c.args.net.now c.args.train.now c.loop-alloc.members c.ways_of.new.members c.loop-alloc.ways.items c.in_ok-ways_of.field-0 c.len-in-loop-alloc-2.result c.loop-alloc.invariant.firsts (omega (arith, c.len-in-loop-alloc-2.ensures, c.loop-alloc.ways.ok))
          (omega (arith, c.loop-alloc-test.true, c.len.ensures, c.len-in-loop-alloc.ensures.count, c.len-in-loop-alloc-2.ensures, c.loop-alloc.ways.ok)) told.grown told.ways);
    }
