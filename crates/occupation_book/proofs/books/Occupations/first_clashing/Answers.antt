use Rattle.std.proofs.Common.{◌<◌, ◌∷◌, [], length, sym, subst}
use Rattle.occupation_book.specs.Held.{IsFree, held}
use Rattle.occupation_book.proofs.AllZones.{at_zone, free_by_zone, free_of_zone, first_of_all, held_apart}
use Rattle.occupation_book.proofs.books.Occupations.first_clashing.Goals as goal

pub first_clashing-requires : goal.first_clashing-requires
first_clashing-requires c =
    let within : c.args.claim.now.zone < length c.self.inside.zones.items = rw c.self.view_is c.requires in
    let read = at_zone c.self.inside.zones.items c.args.claim.now.zone c.index-claims.result.now within c.index-claims.ensures in
    record { order = rw read (c.self.invariant.in_order c.args.claim.now.zone within) }

pub returns-clause-first : goal.returns-clause-first
returns-clause-first c =
    let all = c.self.inside.zones.items in
    let within : c.args.claim.now.zone < length all = rw c.self.view_is c.requires in
    let read = at_zone all c.args.claim.now.zone c.index-claims.result.now within c.index-claims.ensures in
    let found = rw read at c.first_clashing.ensures.found in
    let free = rw read at c.first_clashing.ensures.free in
    let law = c.first_clashes_are_first.ensures in
    rw (← c.self.view_is) (first_of_all all c.self.invariant c.args.claim.now within
    (λ fits. (law.none (held all) (c.args.claim.now ∷ [])).1 fits)
    (λ first. law.apart (held all) (c.args.claim.now ∷ []) first (held_apart all c.self.invariant))
    c.first_clashing.result found free)

pub returns-clause-free : goal.returns-clause-free
returns-clause-free c =
    let all = c.self.inside.zones.items in
    let within : c.args.claim.now.zone < length all = rw c.self.view_is c.requires in
    let read = at_zone all c.args.claim.now.zone c.index-claims.result.now within c.index-claims.ensures in
    let free = rw read at c.first_clashing.ensures.free in (
      λ none. subst (λ book. IsFree (held book) c.args.claim.now) c.self.view_is (free_by_zone all c.self.invariant c.args.claim.now within (free.0 none)),
      λ apart. free.1 (free_of_zone all c.self.invariant c.args.claim.now within (subst (λ book. IsFree (held book) c.args.claim.now) (sym c.self.view_is) apart)),
    )
