-- What is listed may be planned, place by place.
use Rattle.std.proofs.Common.{◌≡◌, inl, inr, sym, refl, subst, arith, ℕ, ◌+◌, ◌<◌, ◌≤◌, List, [], ◌∷◌, ◌++◌, length, get_or, Some, All, length-append}
use Rattle.std.specs.Prelude.{slice_get}
use Rattle.std.proofs.lemmas.Bool.{cases_lt}
use Rattle.std.proofs.lemmas.List.{get_or_append_left, get_or_push}
use Rattle.std.proofs.lemmas.Option.{slice_get_within, get_or_from_slice_get}
use Rattle.rail_types.specs.declared.tracks.Network.{Network}
use Rattle.rail_types.specs.declared.trains.Request.{Request}
use Rattle.rail_types.specs.declared.entries.Settings.{Settings}
use Rattle.stair_pieces.specs.declared.places.Place.{Place}
use Rattle.stair_pieces.specs.declared.places.Step.{Step}
use Rattle.stair_pieces.specs.Places.{start_place}
use Rattle.stair_pieces.specs.Moves.{IsPlace}
use Rattle.tail_states.specs.declared.moves.Move.{Move}
use Rattle.tail_states.specs.declared.moves.Next.{Next}
use Rattle.tail_states.specs.declared.moves.Next.TheVariants.{End as Ends, At}
use Rattle.tail_states.specs.Listed.{Listed, LeadsTo, AreMovesFrom, AreThePlaces}
use Rattle.label_search.specs.declared.plans.Place.{Place as PlannedPlace}
use Rattle.path_labels.specs.Plans.{IsNumberOf, IsPlannedAt, AreFirstPlanned, place_in, planned_at}

module _ (net : Network) (request : Request) (members : List Place) (few : length members ≤ 65536) where
  number_of : (place : Place) (step : Step) (next : Next) → LeadsTo net request members place step next → IsNumberOf next
  number_of place step Ends leads = cc
  number_of place step (At number) leads = let within = slice_get_within members number _ leads.1 in omega (arith, within, few)

  module _ (place : Place) (moves : List Move) (from : AreMovesFrom net request members place moves) where
    pub steps_in : All (λ one. one.step.block < length net.blocks) moves
    steps_in k one inside = (from.sound k one inside).allowed.within

    pub nexts_in : All (λ one. IsNumberOf one.next) moves
    nexts_in k one inside = number_of place (get_or moves k one).step (get_or moves k one).next (from.sound k one inside).leads

-- the place of a number is a place of the request
pub listed_is : (net : Network) (request : Request) (members : List Place) → AreThePlaces net request members → (number : ℕ) (place : Place) → slice_get members number ≡ Some place → IsPlace net request place
listed_is net request members are number place at =
    subst (IsPlace net request) (get_or_from_slice_get members number place place at) (are.sound number place (slice_get_within members number place at))

module _ (net : Network) (settings : Settings) (request : Request) (listed : Listed) where
  pub start_planned : (first : PlannedPlace) → first ≡ place_in net settings request start_place listed.starts → AreFirstPlanned net settings request listed 0 (first ∷ [])
  start_planned first is = record {
    counted = refl;
    start = is;
    places = λ number less. absurd (omega (arith, less));
  }

  pub one_planned_more : (count : ℕ) (planned : List PlannedPlace) (one : PlannedPlace) → AreFirstPlanned net settings request listed count planned → IsPlannedAt net settings request listed count one → AreFirstPlanned net settings request listed (count + 1) (planned ++ one ∷ [])
  one_planned_more count planned one are is = record {
    counted = let long = are.counted in omega (arith, long, length-append planned (one ∷ []));
    start = subst (λ p. p ≡ place_in net settings request start_place listed.starts) (sym (get_or_append_left planned (one ∷ []) _ 0 (let long = are.counted in omega (arith, long)))) are.start;
    places = λ number less. elim (cases_lt number count) [
      | inl early ↦ subst (IsPlannedAt net settings request listed number) (sym (get_or_append_left planned (one ∷ []) _ (number + 1) (let long = are.counted in omega (arith, long, early)))) (are.places number early)
      | inr late ↦
          let long = are.counted in
          let last : number ≡ count = omega (arith, less, late) in
          subst (λ n. IsPlannedAt net settings request listed n (planned_at (planned ++ one ∷ []) (n + 1))) (sym last)
          (subst (IsPlannedAt net settings request listed count) (sym (get_or_push planned one _ (count + 1) long)) is)
    ];
  }
