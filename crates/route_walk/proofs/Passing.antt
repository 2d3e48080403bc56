-- What a walk passes, one place further.
use Rattle.std.proofs.Common.{◌≡◌, ◌∙◌, ℕ, ◌+◌, ◌*◌, ◌<◌, ◌≤◌, Bool, true, false, cond, List, [], ◌∷◌, ◌++◌, length, get_or, map, take, Option, Some, None, option_map, refl, sym, ap, subst, inl, inr, arith, append-nil, add-one}
use Rattle.std.proofs.lemmas.Bool.{cases_lt}
use Rattle.std.proofs.lemmas.List.{get_or_default, take_more, get_or_push, length_push, get_or_append_left, map-append}
use Rattle.std.proofs.lemmas.List.Elements.{All-push, filter_map-append}
use Rattle.std.proofs.lemmas.List.Quantifiers.{all_pairs_push}
use Rattle.std.proofs.lemmas.List.Sums.{sum_by_more, sum_by_more_le, sum_by-le}
use Rattle.std.proofs.lemmas.Option.{slice_get-map, slice_get-get_or}
use Rattle.std.specs.Prelude.{slice_get, slice_index_or, IfSome}
use Rattle.std.specs.List.{All, AllPairs, cons_option, filter_map, sum_by}
use Rattle.rail_types.specs.declared.infra_types.infras.Infra.{Infra}
use Rattle.rail_types.specs.declared.infra_types.routes.Route.{Route}
use Rattle.track_graph.specs.Layouts.{Layout}
use Rattle.route_walk.specs.declared.places.Place.{Place}
use Rattle.route_walk.specs.declared.places.Point.{Point}
use Rattle.route_walk.specs.declared.walks.Passed.{Passed}
use Rattle.route_walk.specs.Legs.{IsBehind, first_number, leg_at, length_m, metres_to, number_at, number_of, numbers_at, zone_to}
use Rattle.route_walk.specs.Sound.{AreSound}

pub short_sum : (places : List Place) (i : ℕ) (d : Place) → All (λ (place : Place). length_m place ≤ 1000000) places → length places ≤ 262144 → i < length places → sum_by length_m (take i places) + length_m (get_or places i d) < 18446744073709551616
short_sum places i d short few within =
    let more = sum_by_more_le length_m places i d within in
    let all = sum_by-le length_m 1000000 places short in
    omega arith

pub one_more : {X Y : Type 0} (f : X → Option Y) (xs : List X) (i : ℕ) (d : X) → i < length xs → filter_map f (take (i + 1) xs) ≡ filter_map f (take i xs) ++ cons_option (f (get_or xs i d)) []
one_more {X} {Y} f xs i d within = ap (filter_map f) (take_more xs i d within) ∙ filter_map-append f (take i xs) (get_or xs i d ∷ [])

-- what was passed of so many places
pub record ArePassedTo (infra : Infra) (layout : Layout) (route : Route) (entry : Place) (places : List Place) (index metres : ℕ) (passed : List Passed) (zones : List (Option ℕ)) : Type 0 where
  pub points : map (λ (one : Passed). one.point) passed ≡ first_number (length infra.detectors) route ∷ filter_map (number_at (length infra.detectors) route.exit) (take index places)
  pub stand : All (λ (one : Passed). slice_get (numbers_at (length infra.detectors) route places) one.reach ≡ Some (Some one.point)) passed
  pub told : All (λ (one : Passed). one.metres ≡ metres_to places one.reach) passed
  pub order : AllPairs (λ (one later : Passed). one.reach < later.reach) passed
  pub reached : All (λ (one : Passed). one.reach ≤ index) passed
  pub legs : zones ≡ filter_map (leg_at infra layout) (take index places)
  pub sound : AreSound layout.count (2 * (length infra.detectors + length infra.buffer_stops)) passed zones
  pub sum : metres ≡ metres_to places index
  pub last : (n : ℕ) (d : Place) (e : Passed) → n + 1 ≡ length passed → (get_or (entry ∷ places) index d).spot.passed ≡ true → (get_or passed n e).metres ≡ metres

none_at : (infra : Infra) (layout : Layout) (route : Route) (place : Place) → place.point ≡ None → (number_at (length infra.detectors) route.exit place ≡ None) × (leg_at infra layout place ≡ None)
none_at infra layout route place e = (ap (option_map (number_of (length infra.detectors) route.exit place.spot.direction)) e, ap (option_map (λ (p : Point). zone_to infra layout place)) e)

no_number : (infra : Infra) (route : Route) (place : Place) (o : Option Point) → place.point ≡ o → number_at (length infra.detectors) route.exit place ≡ None → place.point ≡ None
no_number infra route place None e h = e
no_number infra route place (Some p) e h = (let told : number_at (length infra.detectors) route.exit place ≡ Some (number_of (length infra.detectors) route.exit place.spot.direction p) = ap (option_map (number_of (length infra.detectors) route.exit place.spot.direction)) e in absurd (cc))

some_number : (infra : Infra) (layout : Layout) (route : Route) (place : Place) (n : ℕ) (o : Option Point) → place.point ≡ o → number_at (length infra.detectors) route.exit place ≡ Some n → leg_at infra layout place ≡ Some (zone_to infra layout place)
some_number infra layout route place n None e h = (let told : number_at (length infra.detectors) route.exit place ≡ None = ap (option_map (number_of (length infra.detectors) route.exit place.spot.direction)) e in absurd (cc))
some_number infra layout route place n (Some p) e h = ap (option_map (λ (q : Point). zone_to infra layout place)) e

level_zone : (b : Bool) (zone : ℕ) → ◌≡◌ {A = Option ℕ} (cond b None (Some zone)) None → b ≡ true
level_zone true zone e = refl
level_zone false zone e = absurd (cc)

flat_length : (place : Place) → place.from ≡ place.spot.at → length_m place ≡ 0
flat_length place e = omega arith

module _ (infra : Infra) (layout : Layout) (route : Route) (entry : Place) (places : List Place) (index metres : ℕ) (passed : List Passed) (zones : List (Option ℕ)) (place : Place)
    (so : ArePassedTo infra layout route entry places index metres passed zones) (within : index < length places) (here : get_or places index place ≡ place)
    (behind : IsBehind (get_or (entry ∷ places) index place) place) where
  sum_on : metres + length_m place ≡ metres_to places (index + 1)
  sum_on =
      let more = sum_by_more length_m places index place within in
      let same : length_m (get_or places index place) ≡ length_m place = ap length_m here in
      let sum = so.sum in
      omega arith

  same_place : (d : Place) → get_or (entry ∷ places) (index + 1) d ≡ place
  same_place d = rw add-one (get_or_default places index d place within ∙ here)

  pub pass_none : number_at (length infra.detectors) route.exit place ≡ None → ArePassedTo infra layout route entry places (index + 1) (metres + length_m place) passed zones
  pass_none none =
      let bare = no_number infra route place place.point refl none in
      let at = none_at infra layout route place bare in
      record {
        points = so.points ∙ ap (λ (ns : List ℕ). first_number (length infra.detectors) route ∷ ns) (sym (one_more (number_at (length infra.detectors) route.exit) places index place within
            ∙ (ap (λ (p : Place). filter_map (number_at (length infra.detectors) route.exit) (take index places) ++ cons_option (number_at (length infra.detectors) route.exit p) []) here
            ∙ (ap (λ (o : Option ℕ). filter_map (number_at (length infra.detectors) route.exit) (take index places) ++ cons_option o []) at.0 ∙ append-nil _))));
        stand = so.stand;
        told = so.told;
        order = so.order;
        reached = λ k d h. (let low = so.reached k d h in omega arith);
        legs = so.legs ∙ sym (one_more (leg_at infra layout) places index place within
            ∙ (ap (λ (p : Place). filter_map (leg_at infra layout) (take index places) ++ cons_option (leg_at infra layout p) []) here
            ∙ (ap (λ (o : Option (Option ℕ)). filter_map (leg_at infra layout) (take index places) ++ cons_option o []) at.1 ∙ append-nil _)));
        sound = so.sound;
        sum = sum_on;
        last = λ n d e h run. absurd (behind.passed (ap (λ (p : Place). p.spot.passed) (sym (same_place d)) ∙ run) bare);
      }

  one_zone : (number : ℕ) → number_at (length infra.detectors) route.exit place ≡ Some number → (z : Option ℕ) → z ≡ zone_to infra layout place → (n : ℕ) (d : Passed) → n + 1 < length passed + 1 → slice_index_or (zones ++ z ∷ []) n None ≡ None
      → (slice_index_or (passed ++ (record { point = number; metres = metres + length_m place; reach = index + 1 }) ∷ []) n d).metres ≡ (slice_index_or (passed ++ (record { point = number; metres = metres + length_m place; reach = index + 1 }) ∷ []) (n + 1) d).metres
  one_zone number is z same n d below none = elim (cases_lt (n + 1) (length passed)) [
    | inl less ↦
        let legs = so.sound.legs in
        let left = get_or_append_left passed ((record { point = number; metres = metres + length_m place; reach = index + 1 }) ∷ []) d n (omega arith) in
        let right = get_or_append_left passed ((record { point = number; metres = metres + length_m place; reach = index + 1 }) ∷ []) d (n + 1) less in
        let zone = get_or_append_left zones (z ∷ []) None n (omega arith) in
        ap (λ (p : Passed). p.metres) left ∙ (so.sound.zoned n d less (sym zone ∙ none) ∙ sym (ap (λ (p : Passed). p.metres) right))
    | inr more ↦
        let legs = so.sound.legs in
        let left = get_or_append_left passed ((record { point = number; metres = metres + length_m place; reach = index + 1 }) ∷ []) d n (omega arith) in
        let right = get_or_push passed (record { point = number; metres = metres + length_m place; reach = index + 1 }) d (n + 1) (omega arith) in
        let zone = get_or_push zones z None n (omega arith) in
        let level = behind.level (level_zone place.level _ (sym same ∙ (sym zone ∙ none))) in
        let flat = flat_length place level.1 in
        let last = so.last n place d (omega arith) level.0 in
        let sum : metres ≡ metres + length_m place = omega arith in
        ap (λ (p : Passed). p.metres) left ∙ (last ∙ (sum ∙ sym (ap (λ (p : Passed). p.metres) right)))
  ]

  pub pass_some : (number : ℕ) → number_at (length infra.detectors) route.exit place ≡ Some number → number < 2 * (length infra.detectors + length infra.buffer_stops) → (z : Option ℕ) → z ≡ zone_to infra layout place → IfSome z (λ zone. zone < layout.count)
      → ArePassedTo infra layout route entry places (index + 1) (metres + length_m place) (passed ++ (record { point = number; metres = metres + length_m place; reach = index + 1 }) ∷ []) (zones ++ z ∷ [])
  pass_some number is bound z same below =
      let leg = some_number infra layout route place number place.point refl is in
      let one : Passed = record { point = number; metres = metres + length_m place; reach = index + 1 } in
      record {
        points = map-append (λ (p : Passed). p.point) passed (one ∷ []) ∙ (ap (λ (ns : List ℕ). ns ++ number ∷ []) so.points
            ∙ ap (λ (ns : List ℕ). first_number (length infra.detectors) route ∷ ns) (sym (one_more (number_at (length infra.detectors) route.exit) places index place within
            ∙ (ap (λ (p : Place). filter_map (number_at (length infra.detectors) route.exit) (take index places) ++ cons_option (number_at (length infra.detectors) route.exit p) []) here
            ∙ ap (λ (o : Option ℕ). filter_map (number_at (length infra.detectors) route.exit) (take index places) ++ cons_option o []) is))));
        stand = All-push (λ (p : Passed). slice_get (numbers_at (length infra.detectors) route places) p.reach ≡ Some (Some p.point)) passed one so.stand
            (rw add-one (slice_get-map (number_at (length infra.detectors) route.exit) places index ∙ (ap (option_map (number_at (length infra.detectors) route.exit)) (slice_get-get_or places index place within ∙ ap (λ (p : Place). Some p) here) ∙ ap (λ (o : Option ℕ). Some o) is)));
        told = All-push (λ (p : Passed). p.metres ≡ metres_to places p.reach) passed one so.told sum_on;
        order = all_pairs_push (λ (p later : Passed). p.reach < later.reach) passed one so.order (λ k d h. (let low = so.reached k d h in omega arith));
        reached = All-push (λ (p : Passed). p.reach ≤ index + 1) passed one (λ k d h. (let low = so.reached k d h in omega arith)) (omega arith);
        legs = ap (λ (zs : List (Option ℕ)). zs ++ z ∷ []) so.legs ∙ sym (one_more (leg_at infra layout) places index place within
            ∙ (ap (λ (p : Place). filter_map (leg_at infra layout) (take index places) ++ cons_option (leg_at infra layout p) []) here
            ∙ ap (λ (o : Option (Option ℕ)). filter_map (leg_at infra layout) (take index places) ++ cons_option o []) (leg ∙ ap (λ (o : Option ℕ). Some o) (sym same))));
        sound = record {
          legs = (let long = length_push zones z in let more = length_push passed one in let legs = so.sound.legs in omega arith);
          zoned = λ n d h none. one_zone number is z same n d (let more = length_push passed one in omega arith) none;
          below = All-push (λ (o : Option ℕ). IfSome o (λ zone. zone < layout.count)) zones z so.sound.below below;
          points = All-push (λ (p : Passed). p.point < 2 * (length infra.detectors + length infra.buffer_stops)) passed one so.sound.points bound;
        };
        sum = sum_on;
        last = λ n d e h run. ap (λ (p : Passed). p.metres) (get_or_push passed one e n (let more = length_push passed one in omega arith));
      }

pub short_step : (d : Place) (places : List Place) (i metres len : ℕ) → All (λ (place : Place). length_m place ≤ 1000000) places → length places ≤ 262144 → i < length places → metres ≡ sum_by length_m (take i places) → len ≡ length_m (get_or places i d) → metres + len < 18446744073709551616
short_step d places i metres len short few within sum is = (let all = short_sum places i d short few within in omega arith)

module _ (infra : Infra) (layout : Layout) (route : Route) (entry : Place) (places : List Place) (index metres : ℕ) (passed : List Passed) (zones : List (Option ℕ)) (d : Place)
    (so : ArePassedTo infra layout route entry places index metres passed zones) (within : index < length places)
    (behind : (k : ℕ) (e : Place) → k < length places → IsBehind (get_or (entry ∷ places) k e) (get_or places k e)) where
  abbrev one : Place
  one = get_or places index d

  here : get_or places index one ≡ one
  here = get_or_default places index one d within

  follows : IsBehind (get_or (entry ∷ places) index one) one
  follows = subst (λ (p : Place). IsBehind (get_or (entry ∷ places) index one) p) here (behind index one within)

  pub step_none : (len : ℕ) → len ≡ length_m one → number_at (length infra.detectors) route.exit one ≡ None → ArePassedTo infra layout route entry places (index + 1) (metres + len) passed zones
  step_none len is none = subst (λ (n : ℕ). ArePassedTo infra layout route entry places (index + 1) (metres + n) passed zones) (sym is) (pass_none infra layout route entry places index metres passed zones one so within here follows none)

  pub step_some : (len : ℕ) → len ≡ length_m one → (number : ℕ) → number_at (length infra.detectors) route.exit one ≡ Some number → number < 2 * (length infra.detectors + length infra.buffer_stops) → (z : Option ℕ) → z ≡ zone_to infra layout one → IfSome z (λ zone. zone < layout.count)
      → ArePassedTo infra layout route entry places (index + 1) (metres + len) (passed ++ (record { point = number; metres = metres + len; reach = index + 1 }) ∷ []) (zones ++ z ∷ [])
  step_some len is number told bound z same below = subst (λ (n : ℕ). ArePassedTo infra layout route entry places (index + 1) (metres + n) (passed ++ (record { point = number; metres = metres + n; reach = index + 1 }) ∷ []) (zones ++ z ∷ [])) (sym is)
      (pass_some infra layout route entry places index metres passed zones one so within here follows number told bound z same below)
