use Rattle.std.proofs.Common.{ℕ, ◌<◌, ◌+◌, length, get_or, pos, arith, subst, sym, refl, set}
use Rattle.rail_types.specs.declared.paths.Claim.{Claim}
use Rattle.occupation_book.specs.Held.{IsWithout, zone_at}
use Rattle.occupation_book.proofs.Removals.{out_by_zone, out_of_held, book_without}
use Rattle.occupation_book.proofs.TakenOut.{IsTakenOut, AreCounted, taken_more, taken_again, all_taken, counted_more, all_counted}
use Rattle.occupation_book.proofs.books.Occupations.take_out.Goals as goal
use Rattle.occupation_book.proofs.books.Occupations.take_out.Goals.{then-is_on_next_zone, else-is_on_next_zone}

-- what stands past the end of a list of claims
abbrev nowhere : Claim
nowhere = record { zone = 0; span = record { from = pos 0; to = pos 0 } }

pub loop-at-preserved : goal.loop-at-preserved
loop-at-preserved c = elim c.if-is_on_next_zone.branch [
  | then-is_on_next_zone w ↦
      let claim = get_or c.args.claims.now c.loop-at.at nowhere in
      let zones = c.loop-at.self-inside.zones.items in
      let in_old : claim.zone < length c.self.inside.zones.items = rw c.self.view_is (c.requires.zones c.loop-at.at nowhere c.loop-at-test.true) in
      let in_now : claim.zone < length zones = omega (arith, in_old, c.loop-at.invariant.taken.long) in
      record {
        taken = subst (λ now. IsTakenOut c.args.owner c.args.claims.now c.self.inside.zones.items now.zones.items (c.loop-at.at + 1)) (sym w.self-inside-is) (taken_more c.args.owner c.args.claims.now c.self.inside.zones.items zones c.loop-at.at claim nowhere w.index_mut-zone.result.now w.remove.new.self c.loop-at.invariant.taken c.loop-at-test.true refl in_now w.index_mut-zone.ensures.value w.remove.ensures.without);
        counted = subst (λ now. AreCounted c.args.owner c.self.inside.zones.items now.zones.items c.if-is_on_next_zone.count) (sym w.self-inside-is) (subst (AreCounted c.args.owner c.self.inside.zones.items (set zones claim.zone w.remove.new.self)) (sym w.count-is) (counted_more c.args.owner c.self.inside.zones.items zones claim.zone c.loop-at.count w.index_mut-zone.result.now w.remove.new.self w.remove.result w.saturating_add-count.result c.loop-at.invariant.counted in_now w.index_mut-zone.ensures.value w.remove.ensures.without w.remove.ensures.count w.saturating_add-count.ensures));
      }
  | else-is_on_next_zone w ↦ record {
    taken = subst (λ now. IsTakenOut c.args.owner c.args.claims.now c.self.inside.zones.items now.zones.items (c.loop-at.at + 1)) (sym w.self-inside-is) (taken_again c.args.owner c.args.claims.now c.self.inside.zones.items c.loop-at.self-inside.zones.items c.loop-at.at c.loop-at.invariant.taken (λ d. c.is_on_next_zone.ensures.same d w.if-is_on_next_zone.false));
    counted = subst (λ now. AreCounted c.args.owner c.self.inside.zones.items now.zones.items c.if-is_on_next_zone.count) (sym w.self-inside-is) (subst (AreCounted c.args.owner c.self.inside.zones.items c.loop-at.self-inside.zones.items) (sym w.count-is) c.loop-at.invariant.counted);
  }
]

-- each zone is without the owner's claims
out : (c : goal.After-loop-at) (k : ℕ) → k < length c.self.inside.zones.items → IsWithout c.args.owner (zone_at c.self.inside.zones.items k) (zone_at c.loop-at.self-inside.zones.items k)
out c = all_taken c.args.owner c.args.claims.now c.self.inside.zones.items c.loop-at.self-inside.zones.items c.loop-at.at c.loop-at.invariant.taken (omega arith) c.self.invariant (rw c.self.view_is c.requires.all)

pub invariant_of-self : goal.invariant_of-self
invariant_of-self c = book_without _ _ _ c.loop-at.invariant.taken.long (out c) c.self.invariant

pub returns-clause-claims : goal.returns-clause-claims
returns-clause-claims c = rw (← c.self.view_is) (out_by_zone _ _ _ c.loop-at.invariant.taken.long (out c))

pub returns-clause-held : goal.returns-clause-held
returns-clause-held c = rw (← c.self.view_is) (out_of_held _ _ _ c.loop-at.invariant.taken.long (out c))

pub returns-clause-each : goal.returns-clause-each
returns-clause-each c = rw (← c.self.view_is) (out c)

pub returns-clause-count : goal.returns-clause-count
returns-clause-count c = rw (← c.self.view_is) (all_counted c.args.owner c.self.inside.zones.items c.loop-at.self-inside.zones.items c.loop-at.count c.loop-at.invariant.counted (out_of_held _ _ _ c.loop-at.invariant.taken.long (out c)))
