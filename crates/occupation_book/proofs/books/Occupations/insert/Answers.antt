use Rattle.std.proofs.Common.{◌≡◌, sym, subst}
use Rattle.occupation_book.specs.Held.{IsFree, zone_at}
use Rattle.occupation_book.proofs.AllZones.{at_zone, free_of_zone, one_gained, book_with_it}
use Rattle.occupation_book.proofs.books.Occupations.insert.Goals as goal

-- the zone of the claim, as it was read
read : (c : goal.After-index_mut-claims) → c.index_mut-claims.result.now ≡ zone_at c.self.inside.zones.items c.args.claim.zone
read c = at_zone c.self.inside.zones.items c.args.claim.zone _ (rw c.self.view_is c.requires.zone) c.index_mut-claims.ensures.value

pub insert-requires-clause-order : goal.insert-requires-clause-order
insert-requires-clause-order c = rw (read c) (c.self.invariant.in_order c.args.claim.zone (rw c.self.view_is c.requires.zone))

pub insert-requires-clause-free : goal.insert-requires-clause-free
insert-requires-clause-free c = subst (λ zone. IsFree zone.claims c.args.claim) (sym (read c)) (free_of_zone c.self.inside.zones.items c.self.invariant c.args.claim (rw c.self.view_is c.requires.zone) (rw c.self.view_is c.requires.free))

pub invariant_of-self : goal.invariant_of-self
invariant_of-self c = book_with_it c.insert.new.self c.self.inside.zones.items c.args.claim.zone c.self.invariant (rw c.self.view_is c.requires.zone) c.insert.ensures.order

pub returns-clause-gained : goal.returns-clause-gained
returns-clause-gained c =
    let read = at_zone c.self.inside.zones.items c.args.claim.zone _ (rw c.self.view_is c.requires.zone) c.index_mut-claims.ensures.value in
    let gained = rw read at c.insert.ensures.gained in
    rw (← c.self.view_is) (one_gained c.insert.new.self c.self.inside.zones.items c.args.claim.zone (c.args.claim, c.args.owner) (rw c.self.view_is c.requires.zone) gained)
