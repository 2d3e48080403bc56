-- A run of places, one place further.
use Rattle.std.proofs.Common.{◌≡◌, ◌≢◌, ℕ, List, [], ◌∷◌, ◌++◌, Option, Some, None, refl, sym, ap, subst, ◌∙◌, inl, inr, arith, append-nil, ◌⊎◌}
use Rattle.std.proofs.lemmas.List.Elements.{All-push, All-nil, Contains-get_or, filter_map-append}
use Rattle.std.proofs.lemmas.List.Quantifiers.{all_pairs_push}
use Rattle.std.specs.List.{Contains, cons_option}
use Rattle.std.specs.Option.{option_to_list}
use Rattle.route_walk.specs.declared.courses.Ending.TheVariants as endings
use Rattle.route_walk.specs.declared.passages.Passage.{Passage}
use Rattle.route_walk.specs.declared.passages.Passage.TheVariants.{On, Exit, Twice, Barred}
use Rattle.route_walk.specs.declared.places.Place.{Place}
use Rattle.route_walk.specs.declared.places.Point.{Point}
use Rattle.route_walk.specs.Passages.{Is, detector_of, GoesOn, ComesAgain}
use Rattle.route_walk.specs.Courses.{Follows, last_of, detectors_of, NoneTwice, IsOpen, Ends, ending_of}

pub follows_on : (next : Place → Place → Type 0) (a : Place) (ps : List Place) (p : Place) → Follows next a ps → next (last_of a ps) p → Follows next a (ps ++ p ∷ [])
follows_on next a [] p f h = (h, tt)
follows_on next a (q ∷ ps) p f h = (f.0, follows_on next q ps p f.1 h)

pub last_on : (a : Place) (ps : List Place) (p : Place) → last_of a (ps ++ p ∷ []) ≡ p
last_on a [] p = refl
last_on a (q ∷ ps) p = last_on q ps p

one_detector : (o : Option ℕ) → cons_option o [] ≡ option_to_list o
one_detector None = refl
one_detector (Some d) = refl

-- the detectors of one place more
pub detectors_on : (ps : List Place) (p : Place) → detectors_of (ps ++ p ∷ []) ≡ detectors_of ps ++ option_to_list (detector_of p.point)
detectors_on ps p = filter_map-append (λ (q : Place). detector_of q.point) ps (p ∷ []) ∙ ap (λ (ds : List ℕ). detectors_of ps ++ ds) (one_detector (detector_of p.point))

pub first_detector : (p : Place) → detectors_of (p ∷ []) ≡ option_to_list (detector_of p.point)
first_detector p = one_detector (detector_of p.point)

none_twice_on : (ds : List ℕ) (o : Option ℕ) → NoneTwice ds → ((d : ℕ) → o ≡ Some d → Contains ds d → ⊥) → NoneTwice (ds ++ option_to_list o)
none_twice_on ds None once fresh = subst NoneTwice (sym (append-nil ds)) once
none_twice_on ds (Some d) once fresh = all_pairs_push (λ a b. a ≢ b) ds d once (λ k e h same. fresh d refl (subst (Contains ds) same (Contains-get_or ds k e h)))

module _ (next : Place → Place → Type 0) (entry : Place) (exit : Point) where
  pub open_first : IsOpen next entry exit []
  open_first = record {
    follows = tt;
    goes_on = All-nil (λ (p : Place). GoesOn p.point exit);
    once = subst NoneTwice (sym (detectors_on [] entry)) (none_twice_on [] (detector_of entry.point) (λ i j d h k. absurd (omega arith)) (λ d e h. omega (arith, h.1)));
  }

  pub open_on : (ps : List Place) (p : Place) → IsOpen next entry exit ps → next (last_of entry ps) p → GoesOn p.point exit → (ComesAgain (detectors_of (entry ∷ ps)) p.point → ⊥) → IsOpen next entry exit (ps ++ p ∷ [])
  open_on ps p runs leads goes fresh = record {
    follows = follows_on next entry ps p runs.follows leads;
    goes_on = All-push (λ (q : Place). GoesOn q.point exit) ps p runs.goes_on goes;
    once = subst NoneTwice (sym (detectors_on (entry ∷ ps) p)) (none_twice_on (detectors_of (entry ∷ ps)) (detector_of p.point) runs.once (λ d e h. fresh (d, e, h)));
  }

module _ (next : Place → Place → Type 0) (entry : Place) (exit : Point) (places : List Place) (place coming : Place) (keys : List ℕ) (passage : Passage)
    (runs : IsOpen next entry exit places) (here : place ≡ last_of entry places) (seen : keys ≡ detectors_of (entry ∷ places))
    (leads : next place coming) (is : Is keys coming.point exit passage) where
  from_last : next (last_of entry places) coming
  from_last = subst (λ (p : Place). next p coming) here leads

  not_again : (ComesAgain keys coming.point → ⊥) → ComesAgain (detectors_of (entry ∷ places)) coming.point → ⊥
  not_again fresh = subst (λ (ds : List ℕ). ComesAgain ds coming.point → ⊥) seen fresh

  ends_at : (passage' : Passage) → Is keys coming.point exit passage' → (passage' ≡ On → ⊥) → Ends next entry exit (ending_of passage') (places ++ coming ∷ [])
  ends_at On found differ = absurd (differ refl)
  ends_at Exit found differ = (coming, record { before = places; whole = refl; runs = runs; leads = from_last }, found.0, not_again found.1)
  ends_at Twice found differ = (coming, record { before = places; whole = refl; runs = runs; leads = from_last }, subst (λ (ds : List ℕ). ComesAgain ds coming.point) seen found)
  ends_at Barred found differ = inr (coming, record { before = places; whole = refl; runs = runs; leads = from_last }, found)

  pub ends_here : (passage ≡ On → ⊥) → Ends next entry exit (ending_of passage) (places ++ coming ∷ [])
  ends_here differ = ends_at passage is differ

  pub goes_on : passage ≡ On → IsOpen next entry exit (places ++ coming ∷ [])
  goes_on e = let found = subst (Is keys coming.point exit) e is in open_on next entry exit places coming runs from_last found.0 (not_again found.1)

  pub seen_on : (keys' : List ℕ) → (passage ≡ Twice → ⊥) → (passage ≡ Twice) ⊎ (keys' ≡ keys ++ option_to_list (detector_of coming.point)) → keys' ≡ detectors_of (entry ∷ (places ++ coming ∷ []))
  seen_on keys' e (inl twice) = absurd (e twice)
  seen_on keys' e (inr more) = more ∙ ap (λ (ds : List ℕ). ds ++ option_to_list (detector_of coming.point)) seen ∙ sym (detectors_on (entry ∷ places) coming)

pub not_twice : (passage : Passage) → ending_of passage ≡ endings.Exit → passage ≡ Twice → ⊥
not_twice Twice e h = absurd (cc)
not_twice On e h = absurd (cc)
not_twice Exit e h = absurd (cc)
not_twice Barred e h = absurd (cc)

pub on_or_twice : (passage : Passage) → passage ≡ On → passage ≡ Twice → ⊥
on_or_twice passage e h = (let same : ◌≡◌ {A = Passage} On Twice = sym e ∙ h in absurd (cc))
