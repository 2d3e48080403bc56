use Rattle.std.proofs.Common.{◌≡◌, ap, take, ◌∙◌, subst, sym, AllPairs}
use Rattle.std.proofs.lemmas.List.{take_all}
use Rattle.occupation_book.specs.Held.{HasEndedBefore, held}
use Rattle.occupation_book.proofs.AllZones.{held_sorted}
use Rattle.occupation_book.proofs.books.Occupations.claims.Goals as goal

pub returns-clause-sorted : goal.returns-clause-sorted
returns-clause-sorted c =
    let whole : take c.loop-zone.zone-index c.deref-zone-items.result.now ≡ c.self.inside.zones.items = take_all _ _ c.loop-zone-test.false ∙ c.deref-zone-items.ensures.value in
    subst (AllPairs HasEndedBefore) (sym (c.loop-zone.invariant ∙ ap held whole)) (held_sorted c.self.inside.zones.items c.self.invariant)
