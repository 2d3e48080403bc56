use Rattle.std.proofs.Common.{arith, ap}
use Rattle.occupation_book.specs.Zones.{Zone}
use Rattle.occupation_book.proofs.zones.ZoneClaims.copy.Goals as goal

pub invariant_of-result : goal.invariant_of-result
invariant_of-result c = record {
  level = rw (c.in_ok-ends.ensures.items, c.in_ok-rest.ensures.items, c.as_slice.ensures.value, c.as_slice-2.ensures.value) c.self.invariant.level;
  ends = omega (arith, c.in_ok-ends.ends.ok.1);
  rest = omega (arith, c.in_ok-rest.rest.ok.1);
}

pub returns : goal.returns
returns c =
    rw (c.in_ok-ends.ensures.items, c.in_ok-rest.ensures.items, c.as_slice.ensures.value, c.as_slice-2.ensures.value) (ap (λ (zone : Zone). zone.claims) c.self.view_is)
