-- Claims of an entry that are held one by one.
use Rattle.std.proofs.Common.{◌≡◌, ◌∙◌, ℕ, ◌+◌, ◌<◌, List, [], ◌∷◌, ◌++◌, length, map, take, get_or}
use Rattle.std.proofs.Common.{sym, arith}
use Rattle.std.proofs.lemmas.List.{get_or-map, length-map, map_more}
use Rattle.path_recover.specs.claims.Zones.{Zone}
use Rattle.rail_types.specs.declared.paths.Claim.{Claim}
use Rattle.rail_types.specs.declared.entries.Owner.TheVariants.{Entry as of_entry}
use Rattle.rail_types.specs.Occupation.{HeldClaim}
use Rattle.path_recover.specs.history.Live.{owned_by}

pub owned_within : (place : ℕ) (claims : List Claim) (at : ℕ) → at < length claims → at < length (owned_by place claims)
owned_within place claims at within =
    let same : length (owned_by place claims) ≡ length claims = length-map claims (λ (claim : Claim). (claim, of_entry place)) in
    omega (arith, within, same)

pub owned_at : (place : ℕ) (claims : List Claim) (at : ℕ) (any : HeldClaim) (d : Claim) → at < length claims → get_or (owned_by place claims) at any ≡ (get_or claims at d, of_entry place)
owned_at place claims at any d within = get_or-map (λ (claim : Claim). (claim, of_entry place)) claims at d any within

-- the counts of one zone more
pub counted_more : (zones : List Zone) (at : ℕ) (d : Zone) → at < length zones → (old new : List ℕ) (count : ℕ) → old ≡ map (λ zone. length zone.claims) (take at zones) → new ≡ old ++ count ∷ [] → count ≡ length (get_or zones at d).claims
    → new ≡ map (λ zone. length zone.claims) (take (at + 1) zones)
counted_more zones at d within old new count was more is =
    more ∙ ((λ i. was i ++ is i ∷ []) ∙ sym (map_more (λ (zone : Zone). length zone.claims) zones at d within))
