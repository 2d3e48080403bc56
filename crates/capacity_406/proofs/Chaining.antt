-- The chain is told from the last train back.
use Rattle.std.proofs.Common.{◌≡◌, ◌∙◌, ℕ, ◌<◌, List, [], ◌∷◌, ◌++◌, length, reverse, refl, sym, subst, ap}
use Rattle.std.specs.Prelude.{ℤ, pos, ◌+ℤ◌, Some, None}
use Rattle.std.proofs.Math.ListN.{get_or-map}
use Rattle.std.proofs.lemmas.List.{reverse-append}
use Rattle.rail_types.specs.declared.paths.Claim.{Claim}
use Rattle.capacity_406.specs.declared.trains.Occupied.{Occupied}
use Rattle.capacity_406.specs.declared.trains.Link.{Link}
use Rattle.capacity_406.specs.declared.places.Place.{Place}
use Rattle.capacity_406.specs.declared.places.Cause.{Cause}
use Rattle.capacity_406.specs.Trains.{Has, IsFirstClaim, IsStart, claims_of}
use Rattle.capacity_406.specs.Compression.{shift_of}
use Rattle.capacity_406.specs.Chain.{IsChain, LeadOn, Names}
use Rattle.capacity_406.proofs.Earliest.{first_begin_at_once}
use Rattle.capacity_406.specs.Inside.{AreBounds, IsCaused, IsHeld, link_of, place_at, shifts_of}

-- the shift of a train is that of its place
pub shift_is : (places : List Place) (train : ℕ) → shift_of (shifts_of places) train ≡ (place_at places train).shift
shift_is places train = get_or-map (λ (place : Place). place.shift) places train (record { shift = pos 0; links = 0; cause = None })

reverse-push : (links : List Link) (link : Link) → reverse (links ++ link ∷ []) ≡ link ∷ reverse links
reverse-push links link = reverse-append links (link ∷ [])

module _ (trains : List Occupied) (places : List Place) where
  pub names_it : (train : ℕ) (claim : Claim) → Has trains train claim → Names trains (shifts_of places) (link_of train claim (place_at places train)) claim
  names_it train claim has = record { has = has; zone = refl; at = ap (λ shift. claim.span.from +ℤ shift) (shift_is places train) }

  pub cause_of : (level : ℤ) → AreBounds trains level places → (train : ℕ) → train < length trains → (cause : Cause) → (place_at places train).cause ≡ Some cause → IsHeld trains train cause (place_at places train) (place_at places cause.train)
  cause_of level bounds train below cause is = (subst (IsCaused trains level places train (place_at places train)) is (bounds.caused train below)).0

  -- a train that nothing keeps begins at the least first begin
  pub first_starts : (level : ℤ) → AreBounds trains level places → (train : ℕ) → train < length trains → (place_at places train).cause ≡ None → (claim : Claim) → IsFirstClaim (claims_of trains train) claim → IsStart trains (claim.span.from +ℤ (place_at places train).shift)
  first_starts level bounds train below is claim first =
      let kept : IsCaused trains level places train (place_at places train) None = subst (IsCaused trains level places train (place_at places train)) is (bounds.caused train below) in
      subst (λ from. IsStart trains (from +ℤ (place_at places train).shift)) (first_begin_at_once (claims_of trains train) kept.0 claim kept.1 first) kept.2

  -- one link more, before the others
  pub leads_more : (train : ℕ) (cause : Cause) → IsHeld trains train cause (place_at places train) (place_at places cause.train) → (links : List Link) → LeadOn trains (shifts_of places) train (reverse links) → LeadOn trains (shifts_of places) cause.train (reverse (links ++ link_of train cause.claim (place_at places train) ∷ []))
  leads_more train cause held links leads = subst (LeadOn trains (shifts_of places) cause.train) (sym (reverse-push links (link_of train cause.claim (place_at places train)))) (
    record {
      two = held.two;
      claim = cause.claim;
      names = names_it train cause.claim held.claim;
      earlier = held.earlier;
      has = held.has;
      zone = held.zone;
      ends = ap (λ shift. held.earlier.span.to +ℤ shift) (shift_is places cause.train) ∙ held.touch;
    },
    leads,
  )

  pub chain_whole : (train : ℕ) (claim : Claim) → IsFirstClaim (claims_of trains train) claim → IsStart trains (claim.span.from +ℤ (place_at places train).shift) → (links : List Link) → LeadOn trains (shifts_of places) train (reverse links) → IsChain trains (shifts_of places) (reverse (links ++ link_of train claim (place_at places train) ∷ []))
  chain_whole train claim first starts links leads = subst (IsChain trains (shifts_of places)) (sym (reverse-push links (link_of train claim (place_at places train)))) ((claim, names_it train claim first.0, first, starts), leads)
