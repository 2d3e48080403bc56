use Rattle.std.proofs.Common.{◌≡◌, ◌<◌, length, ap, ◌∙◌, set}
use Rattle.std.specs.List.{flat_map}
use Rattle.occupation_book.specs.Held.{claims_by_zone}
use Rattle.occupation_book.proofs.AllZones.{at_zone, same_claims, book_by_claims}
use Rattle.occupation_book.proofs.books.Occupations.reserve.Goals as goal

-- the claims stay
kept : (c : goal.After-self-1) → claims_by_zone (set c.self.inside.zones.items c.args.zone c.reserve.new.self) ≡ claims_by_zone c.self.inside.zones.items
kept c =
    let within : c.args.zone < length c.self.inside.zones.items = rw c.self.view_is c.requires in
    let read = at_zone c.self.inside.zones.items c.args.zone _ within c.index_mut-claims.ensures.value in
    same_claims c.reserve.new.self c.self.inside.zones.items c.args.zone within (c.reserve.ensures.claims ∙ ap (λ zone. zone.claims) read)

pub invariant_of-self : goal.invariant_of-self
invariant_of-self c = book_by_claims _ _ (kept c) c.self.invariant

pub returns-clause-claims : goal.returns-clause-claims
returns-clause-claims c = kept c ∙ ap claims_by_zone c.self.view_is

pub returns-clause-held : goal.returns-clause-held
returns-clause-held c = ap (flat_map (λ claims. claims)) (kept c ∙ ap claims_by_zone c.self.view_is)
