-- Members show the same beside claims that are the same, in whatever order they are held.
use Rattle.std.proofs.Common.{◌≡◌, ◌<◌, List, length, map, get_or, All, ap, sym, ◌∙◌, subst, arith}
use Rattle.std.specs.Prelude.{ℤ, ◌+ℤ◌, pos}
use Rattle.std.proofs.Math.ListN.{get_or-map}
use Rattle.std.proofs.lemmas.List.{get_or_default, length-map}
use Rattle.rail_types.specs.declared.entries.Owner.TheVariants.{Base}
use Rattle.rail_types.specs.declared.entries.Settings.{Settings}
use Rattle.rail_types.specs.declared.paths.Claim.{Claim}
use Rattle.rail_types.specs.declared.tracks.Network.{Network}
use Rattle.rail_types.specs.declared.trains.Request.{Request}
use Rattle.rail_types.specs.FirstClash.{HoldAlike}
use Rattle.rail_types.specs.Occupation.{Clash, Fits, HeldClaim}
use Rattle.refusal_proof.specs.Proofs.{IsProof}
use Rattle.refusal_proof.specs.pieces.declared.places.Place.{Place}
use Rattle.refusal_proof.specs.pieces.declared.places.Step.{Step}
use Rattle.refusal_proof.specs.pieces.Pieces.{kept, later_by, pieces_of}
use Rattle.refusal_proof.specs.pieces.Places.{place_after, standing_zones}
use Rattle.refusal_proof.specs.tails.declared.certificates.Closed.{Closed}
use Rattle.refusal_proof.specs.tails.declared.certificates.Member.{Member}
use Rattle.refusal_proof.specs.tails.Closing.{GoesOn, IsAdmitted, IsClosed, IsFreeMove}

abbrev pub claims_in : List HeldClaim → List Claim
claims_in list = map (λ one. one.0) list

-- what holds of all claims of one list holds of all of another that has the same members
all_alike : (P : Claim → Type 0) (one other : List HeldClaim) → HoldAlike one other → All P (claims_in one) → All P (claims_in other)
all_alike P one other alike all k d within =
    let pair : HeldClaim = (d, Base 0) in
    let there : k < length other = let long = length-map other (λ (h : HeldClaim). h.0) in omega arith in
    let it : HeldClaim = get_or other k pair in
    let has = (alike it).1 (k, there, get_or_default other k it pair there) in
    let within_one : has.0 < length (claims_in one) = let long = length-map one (λ (h : HeldClaim). h.0) in let less = has.1 in omega arith in
    let is : get_or (claims_in one) has.0 it.0 ≡ it.0 = get_or-map (λ (h : HeldClaim). h.0) one has.0 it ∙ ap (λ (h : HeldClaim). h.0) has.2 in
    subst P (sym (get_or-map (λ (h : HeldClaim). h.0) other k pair)) (subst P is (all has.0 it.0 within_one))

fits_alike : (claims : List Claim) (one other : List HeldClaim) → HoldAlike one other → Fits claims (claims_in one) → Fits claims (claims_in other)
fits_alike claims one other alike fits k d within = all_alike (λ c. ¬ Clash (get_or claims k d) c) one other alike (fits k d within)

pub other_way : (one other : List HeldClaim) → HoldAlike one other → HoldAlike other one
other_way one other alike held = ((alike held).1, (alike held).0)

module _ (net : Network) (settings : Settings) (request : Request) (one other : List HeldClaim) (alike : HoldAlike one other) where
  back : HoldAlike other one
  back = other_way one other alike

  free_back : (place : Place) (step : Step) (enter : ℤ) → IsFreeMove net settings request (claims_in other) place step enter → IsFreeMove net settings request (claims_in one) place step enter
  free_back place step enter free = record {
    move = free.move;
    begins = free.begins;
    ends = free.ends;
    pieces = fits_alike (later_by enter (pieces_of net settings request.train place step)) other one back free.pieces;
  }

  goes_back : (place : Place) (tick enter : ℤ) → GoesOn net request (claims_in other) place tick enter → GoesOn net request (claims_in one) place tick enter
  goes_back place tick enter goes = record {
    rolls = goes.rolls;
    dwells = goes.dwells;
    waits = fits_alike (kept (standing_zones net request.train place) tick enter) other one back goes.waits;
  }

  admits : (members : List Member) (place : Place) (step : Step) (leave : ℤ) → IsAdmitted net settings request (claims_in one) members place step leave → IsAdmitted net settings request (claims_in other) members place step leave
  admits members place step leave is = record {
    held = is.held;
    ends = λ end fits. is.ends end (fits_alike (kept (standing_zones net request.train (place_after net request.train place step)) leave (leave +ℤ pos settings.release)) other one back fits);
  }

  closed_alike : (members : List Member) → IsClosed net settings request (claims_in one) members → IsClosed net settings request (claims_in other) members
  closed_alike members closed = record {
    start = λ step enter inside free below. admits members _ step _ (closed.start step enter inside (free_back _ step enter free) below);
    moves = λ place step tick enter held goes free below. admits members place step _ (closed.moves place step tick enter held (goes_back place tick enter goes) (free_back place step enter free) below);
  }

  pub proof_alike : (closed : Closed) → IsProof net settings (claims_in one) request closed → IsProof net settings (claims_in other) request closed
  proof_alike closed is = record { places = is.places; closed = closed_alike closed.members is.closed }
