use Rattle.std.proofs.Common.{◌≡◌, ◌<◌, length, sym, ap, subst, ◌∙◌, All, Contains}
use Rattle.std.proofs.lemmas.List.Elements.{All-contains_itself}
use Rattle.occupation_book.specs.Held.{AreInOrder, IsFree, held, zone_at}
use Rattle.occupation_book.proofs.AllZones.{at_zone, free_by_zone, free_of_zone, all_of_zone, all_on_zone}
use Rattle.occupation_book.proofs.books.Occupations.of_zone.Goals as goal

inside : (c : goal.After-index) → c.args.zone < length c.self.inside.zones.items
inside c = rw c.self.view_is c.requires

-- the claims that are told
here : (c : goal.After-index) → c.index.result.now.claims ≡ (zone_at c.self.inside.zones.items c.args.zone).claims
here c = ap (λ zone. zone.claims) (at_zone c.self.inside.zones.items c.args.zone c.index.result.now (inside c) c.index.ensures)

pub returns-clause-order : goal.returns-clause-order
returns-clause-order c = subst (AreInOrder c.args.zone) (sym (here c)) (c.self.invariant.in_order c.args.zone (inside c))

pub returns-clause-free : goal.returns-clause-free
returns-clause-free c claim on =
    let there : (zone_at c.self.inside.zones.items claim.zone).claims ≡ c.index.result.now.claims = ap (λ number. (zone_at c.self.inside.zones.items number).claims) on ∙ sym (here c) in
    let within : claim.zone < length c.self.inside.zones.items = subst (λ number. number < length c.self.inside.zones.items) (sym on) (inside c) in
    subst (λ book. (IsFree c.index.result.now.claims claim → IsFree (held book) claim) × (IsFree (held book) claim → IsFree c.index.result.now.claims claim)) c.self.view_is (
      (λ free. free_by_zone c.self.inside.zones.items c.self.invariant claim within (subst (λ claims. IsFree claims claim) (sym there) free)),
      (λ free. subst (λ claims. IsFree claims claim) there (free_of_zone c.self.inside.zones.items c.self.invariant claim within free)),
    )

pub returns-clause-among : goal.returns-clause-among
returns-clause-among c =
    subst (λ book. All (Contains (held book)) c.index.result.now.claims) c.self.view_is
    (subst (All (Contains (held c.self.inside.zones.items))) (sym (here c)) (all_of_zone (Contains (held c.self.inside.zones.items)) c.self.inside.zones.items c.args.zone (inside c) (All-contains_itself (held c.self.inside.zones.items))))

pub returns-clause-all : goal.returns-clause-all
returns-clause-all c =
    subst (λ book. All (λ one. one.0.zone ≡ c.args.zone → Contains c.index.result.now.claims one) (held book)) c.self.view_is
    (subst (λ claims. All (λ one. one.0.zone ≡ c.args.zone → Contains claims one) (held c.self.inside.zones.items)) (sym (here c)) (all_on_zone c.self.inside.zones.items c.self.invariant c.args.zone (inside c)))
