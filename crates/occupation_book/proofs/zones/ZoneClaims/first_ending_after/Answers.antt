use Rattle.std.proofs.Common.{◌≤◌, ◌≤ℤ◌, ◌<ℤ◌, List, arith, ap, sym, subst, length}
use Rattle.std.specs.List.{AllWithin}
use Rattle.rail_types.specs.Occupation.{HeldClaim}
use Rattle.occupation_book.specs.Zones.{Zone}
use Rattle.occupation_book.specs.Held.{AreInOrder}
use Rattle.occupation_book.proofs.Columns.{length_rows, ends_in_order, of_ends, of_last_ends}
use Rattle.occupation_book.proofs.zones.ZoneClaims.first_ending_after.Goals as goal

pub ended_by-requires : goal.ended_by-requires
ended_by-requires c =
    let rows = ap (λ (zone : Zone). zone.claims) c.self.view_is in
    rw c.as_slice.ensures.value
    (ends_in_order c.self.inside.zone c.args.zone c.self.inside.ends.items c.self.inside.rest.items c.self.invariant.level (subst (AreInOrder c.args.zone) (sym rows) c.requires))

pub returns-clause-bound : goal.returns-clause-bound
returns-clause-bound c =
    let long = length_rows c.self.inside.zone c.self.inside.ends.items c.self.inside.rest.items c.self.invariant.level in
    let same = ap (λ (zone : Zone). length zone.claims) c.self.view_is in
    omega (arith, c.ended_by.ensures.bound, ap length c.as_slice.ensures.value)

pub returns-clause-before : goal.returns-clause-before
returns-clause-before c =
    let rows = ap (λ (zone : Zone). zone.claims) c.self.view_is in
    let ended = rw c.as_slice.ensures.value at c.ended_by.ensures.before in
    let bound : c.ended_by.result ≤ length c.self.inside.ends.items = rw c.as_slice.ensures.value at c.ended_by.ensures.bound in
    subst (λ (claims : List HeldClaim). AllWithin (λ one. one.0.span.to ≤ℤ c.args.span.now.from) claims 0 c.ended_by.result) rows
    (of_ends c.self.inside.zone (λ end. end ≤ℤ c.args.span.now.from) c.self.inside.ends.items c.self.inside.rest.items 0 c.ended_by.result c.self.invariant.level bound ended)

pub returns-clause-after : goal.returns-clause-after
returns-clause-after c =
    let rows = ap (λ (zone : Zone). zone.claims) c.self.view_is in
    let later = rw c.as_slice.ensures.value at c.ended_by.ensures.after in
    subst (λ (claims : List HeldClaim). AllWithin (λ one. c.args.span.now.from <ℤ one.0.span.to) claims c.ended_by.result (length claims)) rows
    (of_last_ends c.self.inside.zone (λ end. c.args.span.now.from <ℤ end) c.self.inside.ends.items c.self.inside.rest.items c.ended_by.result c.self.invariant.level later)
