use Rattle.std.proofs.Common.{arith}
use Rattle.occupation_book.proofs.zones.ZoneClaims.reserve.Goals as goal

pub invariant_of-self : goal.invariant_of-self
invariant_of-self c =
    let ends = c.self.invariant.ends in
    record {
      level = rw c.reserve.ensures.items c.self.invariant.level;
      ends = omega arith;
      rest = c.self.invariant.rest;
    }

pub invariant_of-self-in_err-reserve-2 : goal.invariant_of-self-in_err-reserve-2
invariant_of-self-in_err-reserve-2 c =
    let ends = c.self.invariant.ends in
    let rest = c.self.invariant.rest in
    record {
      level = rw (c.reserve.ensures.items, c.reserve-2.ensures.items) c.self.invariant.level;
      ends = omega arith;
      rest = omega arith;
    }

pub invariant_of-self-2 : goal.invariant_of-self-2
invariant_of-self-2 c = record {
  level = rw (c.reserve.ensures.items, c.reserve-2.ensures.items) c.self.invariant.level;
  ends = c.in_ok-reserve.ensures.ok;
  rest = c.in_ok-reserve-2.ensures.ok;
}
