use Rattle.std.proofs.Common.{◌≡◌, ◌∷◌, ◌∙◌, arith, ap, insert, length, subst, sym}
use Rattle.std.specs.List.Sorted.{IsPermutation}
use Rattle.std.proofs.lemmas.List.Sorted.{IsPermutation-insert}
use Rattle.occupation_book.specs.Zones.{Zone}
use Rattle.rail_types.specs.Occupation.{HeldClaim}
use Rattle.occupation_book.specs.Columns.{rows_of}
use Rattle.occupation_book.specs.Held.{AreInOrder}
use Rattle.occupation_book.proofs.Columns.{length_rows, of_claim, rows_with}
use Rattle.occupation_book.proofs.Orders.{order_with_it}
use Rattle.occupation_book.proofs.zones.ZoneClaims.insert.Goals as goal

pub insert_row-requires : goal.insert_row-requires
insert_row-requires c =
    let long = length_rows c.self.inside.zone c.self.inside.ends.items c.self.inside.rest.items c.self.invariant.level in
    let same = ap (λ (zone : Zone). length zone.claims) c.self.view_is in
    let bound = c.first_ending_after-at.ensures.bound in
    let spare = ap (λ (zone : Zone). zone.spare) c.self.view_is in
    let ends = c.self.invariant.ends in
    let rest = c.self.invariant.rest in
    let level = c.self.invariant.level in
    record {
      ends = (omega (arith, c.self.inside.ends.ok.0), omega (arith, c.requires.room));
      rest = (omega (arith, c.self.inside.rest.ok.0), omega (arith, c.requires.room));
    }

pub invariant_of-self : goal.invariant_of-self
invariant_of-self c =
    let spare = ap (λ (zone : Zone). zone.spare) c.self.view_is in
    let ends = c.self.invariant.ends in
    let rest = c.self.invariant.rest in
    let level = c.self.invariant.level in
    let room = c.requires.room in
    record {
      level = omega (arith, c.insert_row.ensures.ends_len, c.insert_row.ensures.rest_len, c.insert_row.new.ends.ok.0, c.insert_row.new.rest.ok.0, c.self.inside.ends.ok.0, c.self.inside.rest.ok.0);
      ends = omega (arith, c.insert_row.ensures.ends_len, c.insert_row.ensures.ends_room);
      rest = omega (arith, c.insert_row.ensures.rest_len, c.insert_row.ensures.rest_room);
    }

pub returns-clause-order : goal.returns-clause-order
returns-clause-order c =
    let bounds = c.first_ending_after-at.ensures in
    let old = ap (λ (zone : Zone). zone.claims) c.self.view_is in
    let row = of_claim c.args.claim c.args.owner c.rest_of-row.result c.rest_of-row.ensures.from c.rest_of-row.ensures.owner in
    let with_it : rows_of c.args.claim.zone c.insert_row.new.ends.items c.insert_row.new.rest.items ≡ insert c.args.self.now.claims c.first_ending_after-at.result (c.args.claim, c.args.owner) = rows_with c.args.claim.zone c.self.inside.zone c.self.inside.ends.items c.self.inside.rest.items c.insert_row.new.ends.items c.insert_row.new.rest.items c.args.self.now.claims c.first_ending_after-at.result c.args.claim.span.to c.rest_of-row.result c.self.invariant.level old c.requires.order.on_zone c.insert_row.ensures.ends c.insert_row.ensures.rest ∙ ap (λ (one : HeldClaim). insert c.args.self.now.claims c.first_ending_after-at.result one) row in
    subst (AreInOrder c.args.claim.zone) (sym with_it) (order_with_it _ _ _ _ c.requires.order c.requires.ticks c.requires.near c.requires.free bounds.before bounds.after)

pub returns-clause-gained : goal.returns-clause-gained
returns-clause-gained c =
    let old = ap (λ (zone : Zone). zone.claims) c.self.view_is in
    let row = of_claim c.args.claim c.args.owner c.rest_of-row.result c.rest_of-row.ensures.from c.rest_of-row.ensures.owner in
    let with_it : rows_of c.args.claim.zone c.insert_row.new.ends.items c.insert_row.new.rest.items ≡ insert c.args.self.now.claims c.first_ending_after-at.result (c.args.claim, c.args.owner) = rows_with c.args.claim.zone c.self.inside.zone c.self.inside.ends.items c.self.inside.rest.items c.insert_row.new.ends.items c.insert_row.new.rest.items c.args.self.now.claims c.first_ending_after-at.result c.args.claim.span.to c.rest_of-row.result c.self.invariant.level old c.requires.order.on_zone c.insert_row.ensures.ends c.insert_row.ensures.rest ∙ ap (λ (one : HeldClaim). insert c.args.self.now.claims c.first_ending_after-at.result one) row in
    subst (IsPermutation ((c.args.claim, c.args.owner) ∷ c.args.self.now.claims)) (sym with_it) (IsPermutation-insert c.args.self.now.claims c.first_ending_after-at.result (c.args.claim, c.args.owner))

pub returns-clause-room : goal.returns-clause-room
returns-clause-room c =
    let spare = ap (λ (zone : Zone). zone.spare) c.self.view_is in
    let room = c.requires.room in
    omega arith
