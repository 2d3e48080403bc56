use Rattle.std.proofs.Common.{◌≡◌, ap, take, ◌∙◌}
use Rattle.std.proofs.lemmas.List.{take_all}
use Rattle.occupation_book.specs.Held.{claims_by_zone}
use Rattle.occupation_book.proofs.AllZones.{book_by_claims}
use Rattle.occupation_book.proofs.books.Occupations.copy.Goals as goal

pub invariant_of-result : goal.invariant_of-result
invariant_of-result c =
    let whole : take c.loop-zone.zone-index c.deref-zone-items.result.now ≡ c.self.inside.zones.items = take_all _ _ c.loop-zone-test.false ∙ c.deref-zone-items.ensures.value in
    book_by_claims _ _ (c.loop-zone.invariant ∙ ap claims_by_zone whole) c.self.invariant
