-- A route that leads from each place to one at most comes to its end in one way.
use Rattle.std.proofs.Common.{◌≡◌, ◌≢◌, ◌∙◌, ◌⊎◌, ℕ, ◌+◌, ◌<◌, List, [], ◌∷◌, ◌++◌, length, Option, Some, None, refl, sym, ap, subst, inl, inr, arith, append-nil, length-append}
use Rattle.std.proofs.lemmas.List.Elements.{All-contains, Contains-append_right, filter_map-append}
use Rattle.std.proofs.lemmas.List.{get_or_append_left}
use Rattle.std.proofs.Math.Seq.{get_or-append_seam}
use Rattle.std.specs.List.{Contains, cons_option}
use Rattle.route_walk.specs.declared.places.Place.{Place}
use Rattle.route_walk.specs.declared.places.Point.{Point}
use Rattle.route_walk.specs.declared.places.Point.TheVariants.{Detector, Stop}
use Rattle.route_walk.specs.Passages.{ComesAgain, GoesOn, IsBarred, detector_of}
use Rattle.route_walk.specs.Courses.{Follows, HasNoWay, IsEnded, IsOpen, IsOpenTo, IsRound, IsStopped, IsThrough, NoneTwice, detectors_of, last_of}

apart_parts : (ds es : List ℕ) (d : ℕ) → NoneTwice (ds ++ d ∷ es) → Contains ds d → ⊥
apart_parts ds es d once (k, within, e) =
    once k (length ds) d within (simp length-append (omega arith))
    (get_or_append_left ds (d ∷ es) d k within ∙ e ∙ sym (get_or-append_seam ds d es d))

exit_stops : (e : Point) → GoesOn (Some e) e → ⊥
exit_stops (Detector d) go = go refl
exit_stops (Stop t s) go = go

exit_open : (e : Point) → IsBarred (Some e) e → ⊥
exit_open (Detector d) barred = barred
exit_open (Stop t s) barred = barred refl

barred_stops : (q : Option Point) (e : Point) → IsBarred q e → GoesOn q e → ⊥
barred_stops None e barred go = barred
barred_stops (Some (Detector d)) e barred go = barred
barred_stops (Some (Stop t s)) e barred go = go

barred_bare : (q : Option Point) (e : Point) (d : ℕ) → IsBarred q e → detector_of q ≡ Some d → ⊥
barred_bare None e d barred h = barred
barred_bare (Some (Detector n)) e d barred h = barred
barred_bare (Some (Stop t s)) e d barred h = absurd (cc)

module _ (next : Place → Place → Type 0) (one_next : (a b c : Place) → next a b → next a c → b ≡ c) where
  fronts : (a : Place) (xs ys : List Place) → Follows next a xs → Follows next a ys → ((zs : List Place) × (ys ≡ xs ++ zs)) ⊎ ((zs : List Place) × (xs ≡ ys ++ zs))
  fronts a [] ys f g = inl (ys, refl)
  fronts a (x ∷ xs) [] f g = inr (x ∷ xs, refl)
  fronts a (x ∷ xs) (y ∷ ys) f g =
      let e : x ≡ y = one_next a x y f.0 g.0 in
      elim (fronts x xs ys f.1 (subst (λ (p : Place). Follows next p ys) (sym e) g.1)) [
        | inl t ↦ inl (t.0, ap (λ (p : Place). p ∷ ys) (sym e) ∙ ap (λ (ps : List Place). x ∷ ps) t.1)
        | inr t ↦ inr (t.0, ap (λ (p : Place). p ∷ xs) e ∙ ap (λ (ps : List Place). y ∷ ps) t.1)
      ]

  next_of : (a : Place) (xs : List Place) (p : Place) (zs : List Place) → Follows next a (xs ++ p ∷ zs) → next (last_of a xs) p
  next_of a [] p zs f = f.0
  next_of a (x ∷ xs) p zs f = next_of x xs p zs f.1

module _ (next : Place → Place → Type 0) (one_next : (a b c : Place) → next a b → next a c → b ≡ c) (entry : Place) (exit : Point) where
  -- no place continues the run
  record Stops (xs : List Place) : Type 0 where
    none : (p : Place) → next (last_of entry xs) p → GoesOn p.point exit → (ComesAgain (detectors_of (entry ∷ xs)) p.point → ⊥) → ⊥

  not_longer : (xs : List Place) (p : Place) (zs : List Place) → Stops xs → IsOpen next entry exit (xs ++ p ∷ zs) → ⊥
  not_longer xs p zs stops runs =
      let goes : GoesOn p.point exit = All-contains (λ (q : Place). GoesOn q.point exit) (xs ++ p ∷ zs) p runs.goes_on (Contains-append_right xs (p ∷ zs) p (0, omega arith, refl)) in
      let parts = subst NoneTwice (filter_map-append (λ (q : Place). detector_of q.point) (entry ∷ xs) (p ∷ zs)) runs.once in
      stops.none p (next_of next one_next entry xs p zs runs.follows) goes
      (λ again. apart_parts (detectors_of (entry ∷ xs)) (detectors_of zs) again.0 (subst (λ (o : Option ℕ). NoneTwice (detectors_of (entry ∷ xs) ++ cons_option o (detectors_of zs))) again.1 parts) again.2)

  front_is_all : (xs zs : List Place) → Stops xs → IsOpen next entry exit (xs ++ zs) → xs ≡ xs ++ zs
  front_is_all xs [] stops runs = sym (append-nil xs)
  front_is_all xs (p ∷ zs) stops runs = absurd (not_longer xs p zs stops runs)

  same_runs : (xs ys : List Place) → Stops xs → Stops ys → IsOpen next entry exit xs → IsOpen next entry exit ys → xs ≡ ys
  same_runs xs ys stops stops' runs runs' = elim (fronts next one_next entry xs ys runs.follows runs'.follows) [
    | inl t ↦ front_is_all xs t.0 stops (subst (IsOpen next entry exit) t.1 runs') ∙ sym t.1
    | inr t ↦ sym (front_is_all ys t.0 stops' (subst (IsOpen next entry exit) t.1 runs) ∙ sym t.1)
  ]

  ended_stops : (places : List Place) → IsEnded next entry exit places → Stops places
  ended_stops places (runs, none) = record { none = λ p h go fresh. none p h }

  module _ (places : List Place) (last : Place) (way : IsOpenTo next entry exit places last) where
    found_stops : last.point ≡ Some exit → Stops way.before
    found_stops found = record {
      none = λ p h go fresh.
          exit_stops exit (subst (λ (q : Option Point). GoesOn q exit) (ap (λ (q : Place). q.point) (one_next (last_of entry way.before) p last h way.leads) ∙ found) go);
    }

    again_stops : ComesAgain (detectors_of (entry ∷ way.before)) last.point → Stops way.before
    again_stops again = record {
      none = λ p h go fresh.
          fresh (subst (λ (q : Place). ComesAgain (detectors_of (entry ∷ way.before)) q.point) (one_next (last_of entry way.before) last p way.leads h) again);
    }

    barred_ends : IsBarred last.point exit → Stops way.before
    barred_ends barred = record {
      none = λ p h go fresh.
          barred_stops last.point exit barred (subst (λ (q : Place). GoesOn q.point exit) (one_next (last_of entry way.before) p last h way.leads) go);
    }

    not_ended : (others : List Place) → Stops way.before → IsEnded next entry exit others → ⊥
    not_ended others stops (runs, none) =
        let same = same_runs way.before others stops (ended_stops others (runs, none)) way.runs runs in
        none last (subst (λ (xs : List Place). next (last_of entry xs) last) same way.leads)

    module _ (others : List Place) (last' : Place) (way' : IsOpenTo next entry exit others last') (stops : Stops way.before) (stops' : Stops way'.before) where
      same_before : way.before ≡ way'.before
      same_before = same_runs way.before way'.before stops stops' way.runs way'.runs

      same_last : last ≡ last'
      same_last = one_next (last_of entry way'.before) last last' (subst (λ (xs : List Place). next (last_of entry xs) last) same_before way.leads) way'.leads

      same_places : places ≡ others
      same_places = way.whole ∙ ap (λ (xs : List Place). xs ++ last ∷ []) same_before ∙ ap (λ (p : Place). way'.before ++ p ∷ []) same_last ∙ sym way'.whole

  pub one_way : (places others : List Place) → IsThrough next entry exit places → IsThrough next entry exit others → places ≡ others
  one_way places others (last, way, found, _) (last', way', found', _) =
      same_places places last way others last' way' (found_stops places last way found) (found_stops others last' way' found')

  pub way_or_round : (places others : List Place) → IsThrough next entry exit places → IsRound next entry exit others → ⊥
  way_or_round places others (last, way, found, fresh) (last', way', again) =
      let stops = found_stops places last way found in
      let stops' = again_stops others last' way' again in
      let before = same_before places last way others last' way' stops stops' in
      let end = same_last places last way others last' way' stops stops' in
      fresh (subst (λ (q : Place). ComesAgain (detectors_of (entry ∷ way.before)) q.point) (sym end) (subst (λ (xs : List Place). ComesAgain (detectors_of (entry ∷ xs)) last'.point) (sym before) again))

  pub way_or_no_way : (places others : List Place) → IsThrough next entry exit places → HasNoWay next entry exit others → ⊥
  way_or_no_way places others (last, way, found, fresh) (inl ended) = not_ended places last way others (found_stops places last way found) ended
  way_or_no_way places others (last, way, found, fresh) (inr (last', way', barred)) =
      let end = same_last places last way others last' way' (found_stops places last way found) (barred_ends others last' way' barred) in
      exit_open exit (subst (λ (q : Option Point). IsBarred q exit) (ap (λ (p : Place). p.point) (sym end) ∙ found) barred)

  pub round_or_no_way : (places others : List Place) → IsRound next entry exit places → HasNoWay next entry exit others → ⊥
  round_or_no_way places others (last, way, again) (inl ended) = not_ended places last way others (again_stops places last way again) ended
  round_or_no_way places others (last, way, again) (inr (last', way', barred)) =
      let end = same_last places last way others last' way' (again_stops places last way again) (barred_ends others last' way' barred) in
      barred_bare last.point exit again.0 (subst (λ (p : Place). IsBarred p.point exit) (sym end) barred) again.1

  pub one_no_way : (places others : List Place) → HasNoWay next entry exit places → HasNoWay next entry exit others → places ≡ others
  one_no_way places others (inl ended) (inl ended') = same_runs places others (ended_stops places ended) (ended_stops others ended') ended.0 ended'.0
  one_no_way places others (inl ended) (inr (last', way', barred')) = absurd (not_ended others last' way' places (barred_ends others last' way' barred') ended)
  one_no_way places others (inr (last, way, barred)) (inl ended') = absurd (not_ended places last way others (barred_ends places last way barred) ended')
  one_no_way places others (inr (last, way, barred)) (inr (last', way', barred')) =
      same_places places last way others last' way' (barred_ends places last way barred) (barred_ends others last' way' barred')
