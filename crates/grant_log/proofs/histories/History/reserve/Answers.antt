use Rattle.std.proofs.Common.{arith}
use Rattle.grant_log.proofs.histories.History.reserve.Goals as goal

pub invariant_of-self-in_err-reserve-2 : goal.invariant_of-self-in_err-reserve-2
invariant_of-self-in_err-reserve-2 c =
    rw (c.reserve.ensures.keys, c.reserve-then-self-eq0.ensures.items) (record {
      planned = c.self.invariant.planned;
      legal = c.self.invariant.legal;
      indexed = c.self.invariant.indexed;
      freed = c.self.invariant.freed;
      listed = omega arith;
      told = c.self.invariant.told;
      room = omega arith;
    })

pub invariant_of-self-in_err-reserve-3 : goal.invariant_of-self-in_err-reserve-3
invariant_of-self-in_err-reserve-3 c =
    rw (c.reserve.ensures.keys, c.reserve-then-self-eq0.ensures.items, c.reserve-then-self-eq0-2.ensures.items) (record {
      planned = c.self.invariant.planned;
      legal = c.self.invariant.legal;
      indexed = c.self.invariant.indexed;
      freed = c.self.invariant.freed;
      listed = omega arith;
      told = omega arith;
      room = omega arith;
    })

pub invariant_of-self-then-self-eq0 : goal.invariant_of-self-then-self-eq0
invariant_of-self-then-self-eq0 c =
    rw (c.reserve.ensures.keys, c.reserve-then-self-eq0.ensures.items, c.reserve-then-self-eq0-2.ensures.items) (record {
      planned = c.self.invariant.planned;
      legal = c.self.invariant.legal;
      indexed = c.self.invariant.indexed;
      freed = c.self.invariant.freed;
      listed = c.in_ok-reserve-2.ensures.ok;
      told = c.in_ok-reserve-3.ensures.ok;
      room = c.in_ok-reserve.ensures.ok;
    })
