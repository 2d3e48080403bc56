use Rattle.std.proofs.Common.{Contains, sym, subst, arith}
use Rattle.tail_states.specs.Inside.{AreFirstMoves}
use Rattle.tail_states.proofs.Adding.{firsts_next, grows_twice}
use Rattle.tail_states.proofs.wanted.moves_of_wanted.Goals as goal

pub loop-alloc-preserved : goal.loop-alloc-preserved
loop-alloc-preserved c =
    let told = c.in_ok-own.ensures in
    let net = c.args.net.now in
    let request = c.args.request.now in
    let wanted = c.args.wanted.now in
    record {
      found = told.found;
      grown = grows_twice c.args.members.now c.loop-alloc.members c.moves_if_wanted.new.members c.loop-alloc.invariant.grown told.grown;
      firsts = subst (AreFirstMoves net request (Contains wanted) c.moves_if_wanted.new.members) (sym c.in_ok-push.ensures.items)
          (firsts_next net request (Contains wanted) c.loop-alloc.members c.moves_if_wanted.new.members c.loop-alloc.moves.items c.in_ok-own.own c.len-number.result c.loop-alloc.invariant.firsts (omega (arith, c.len-number.ensures, c.loop-alloc.moves.ok))
          (omega (arith, c.loop-alloc-test.true, c.len.ensures, c.len-in-loop-alloc.ensures.count, c.len-number.ensures, c.loop-alloc.moves.ok)) told.grown told.moves);
    }
