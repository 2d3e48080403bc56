-- What is planned is within the limits of a search.
use Rattle.std.proofs.Common.{◌≡◌, sym, refl, subst, ℕ, zero, suc, ◌+◌, ◌<◌, Bool, true, false, List, [], length, map, get_or, All, None, arith, if◌then◌else◌}
use Rattle.std.specs.Prelude.{ℤ, pos, ◌+ℤ◌, int_lt}
use Rattle.std.proofs.lemmas.Int.{ints}
use Rattle.std.proofs.lemmas.List.{get_or_default}
use Rattle.std.proofs.lemmas.List.Elements.{All-nil, All-append, All-map}
use Rattle.std.proofs.lemmas.Option.{slice_get_within, slice_get-get_or}
use Rattle.rail_types.specs.declared.tracks.Network.{Network}
use Rattle.rail_types.specs.declared.trains.Request.{Request}
use Rattle.rail_types.specs.declared.entries.Settings.{Settings}
use Rattle.rail_types.specs.Flaws.{first_flaw}
use Rattle.rail_types.specs.Limits.{IsNear, IsSettingsWithinLimits, IsRequestWithinLimits}
use Rattle.occupation_book.specs.Zones.{Zone}
use Rattle.free_windows.specs.Starts.{IsPiece}
use Rattle.stair_pieces.specs.declared.places.Place.{Place}
use Rattle.stair_pieces.specs.declared.places.Step.{Step}
use Rattle.stair_pieces.specs.Places.{start_place, place_after, standing_zones}
use Rattle.stair_pieces.specs.Pieces.{pieces_of, kept}
use Rattle.stair_pieces.specs.Steps.{IsPlaceIn}
use Rattle.stair_pieces.specs.Claiming.{PiecesAreClaims, StandingZonesAreOfTheNetwork, StepsLeadToPlaces}
use Rattle.tail_states.specs.declared.moves.Move.{Move}
use Rattle.tail_states.specs.declared.moves.Next.{Next}
use Rattle.tail_states.specs.declared.moves.Next.TheVariants.{End as Ends, At}
use Rattle.tail_states.specs.Asked.{IsAsked, SoundNetworksAreAsked, PlacesMayBeCut}
use Rattle.tail_states.specs.Listed.{Listed, LeadsTo, IsListedMove, AreMovesFrom}
use Rattle.label_search.specs.declared.plans.Plan.{Plan}
use Rattle.label_search.specs.Plans.{IsShort, IsTarget, IsMoveOf, IsPlaceOf, IsPlan}
use Rattle.path_labels.specs.Plans.{ticks_of_step, target_of, kept_behind, move_in, place_in, planned_at}
use Rattle.path_labels.specs.Searched.{AreCut, IsPlannedOver, IsPlannedWithinLimits, PlansMayBeSearched, PlansOverMayBeSearched}
use Rattle.path_labels.proofs.PlanningPlaces.{listed_is}
use Rattle.path_labels.proofs.Shortness.{dwell_short, ticks_few}

module _ (claims : PiecesAreClaims) (stands : StandingZonesAreOfTheNetwork) (leads : StepsLeadToPlaces) (net : Network) (settings : Settings) (request : Request) (flawless : first_flaw net ≡ None) (asked : IsRequestWithinLimits request) (timetable : IsSettingsWithinLimits settings) (book : List Zone) (same : length book ≡ net.zones) where
  kept_pieces : (zones : List ℕ) → All (λ zone. zone < net.zones) zones → (from to : ℤ) → IsNear from → IsNear to → All (IsPiece (length book)) (kept zones from to)
  kept_pieces zones on from to near_from near_to = go (int_lt from to) refl
    where
      go : (some : Bool) → int_lt from to ≡ some → All (IsPiece (length book)) (if some then map (λ zone. record { zone = zone; span = record { from = from; to = to } }) zones else [])
      go true is = All-map (IsPiece (length book)) (λ zone. record { zone = zone; span = record { from = from; to = to } }) zones (λ k zone within. record {
        zone = subst (λ most. get_or zones k zone < most) (sym same) (on k zone within);
        near = (near_from, near_to);
        ticks = grind (arith, ints);
      })
      go false is = All-nil (IsPiece (length book))

  module _ (members : List Place) (place : Place) (here : IsPlaceIn net settings request.train place) where
    target_in : (step : Step) (next : Next) → LeadsTo net request members place step next → IsTarget (length members + 1) (target_of next)
    target_in step Ends to = cc
    target_in step (At number) to = let within = slice_get_within members number _ to.1 in omega (arith, within)

    kept_in : (step : Step) → step.block < length net.blocks → (next : Next) → All (IsPiece (length book)) (kept_behind net settings request place step next)
    kept_in step inside (At number) = All-nil (IsPiece (length book))
    kept_in step inside Ends =
        let few = ticks_few net settings request.train place step timetable in let low = few.0 in let high = few.1 in let release = timetable.release in
        kept_pieces (standing_zones net request.train (place_after net request.train place step))
        (stands net settings request.train (place_after net request.train place step) flawless (leads net settings request.train place step here inside))
        (ticks_of_step net settings request place step) (ticks_of_step net settings request place step +ℤ pos settings.release)
        (omega (arith, ints, low, high), omega (arith, ints, low, high)) (omega (arith, ints, low, high, release), omega (arith, ints, low, high, release))

    move_within : (one : Move) → IsListedMove net request members place one → IsMoveOf (length members + 1) book (move_in net settings request place one)
    move_within one listed =
        let few = ticks_few net settings request.train place one.step timetable in let low = few.0 in let high = few.1 in
        record {
          run = ((omega (arith, ints, low), omega (arith, ints, high)), low);
          pieces = All-append (IsPiece (length book)) (pieces_of net settings request.train place one.step) _
              (λ k claim within. let is = claims net settings request.train place one.step flawless here listed.allowed.within k claim within in
              record { zone = subst (λ most. (get_or (pieces_of net settings request.train place one.step) k claim).zone < most) (sym same) is.zone; near = is.near; ticks = is.ticks })
              (kept_in one.step listed.allowed.within one.next);
          target = target_in one.step one.next listed.leads;
        }

    place_within : (moves : List Move) → AreMovesFrom net request members place moves → IsPlaceOf (length members + 1) book (place_in net settings request place moves)
    place_within moves from = record {
      dwell = dwell_short request place.made place.standing asked;
      waits = kept_pieces (standing_zones net request.train place) (stands net settings request.train place flawless here) (pos 0) (pos 1) (omega (arith, ints), omega (arith, ints)) (omega (arith, ints), omega (arith, ints));
      moves = All-map (IsMoveOf (length members + 1) book) (move_in net settings request place) moves (λ k one within. move_within (get_or moves k one) (from.sound k one within));
    }

  module _ (listed : Listed) (plan : Plan) (all : IsPlannedOver net settings request listed plan) (start : IsPlaceIn net settings request.train start_place) (others : AreCut net settings request listed) where
    long : length plan.places ≡ length listed.members + 1
    long = all.planned.places.counted

    at_number : (number : ℕ) → number < length plan.places → IsPlaceOf (length listed.members + 1) book (planned_at plan.places number)
    at_number zero within = subst (IsPlaceOf (length listed.members + 1) book) (sym all.planned.places.start) (place_within listed.members start_place start listed.starts all.moves.starts)
    at_number (suc number) within =
        let inside : number < length listed.members = let is = long in omega (arith, within, is) in
        let also : number < length listed.moves = let is = all.moves.count in omega (arith, inside, is) in
        let at = slice_get-get_or listed.members number start_place inside in
        let with = slice_get-get_or listed.moves number [] also in
        let place = get_or listed.members number start_place in
        let moves = get_or listed.moves number [] in
        let next : number + 1 ≡ suc number = omega arith in
        subst (λ n. IsPlaceOf (length listed.members + 1) book (planned_at plan.places n)) next
        (subst (IsPlaceOf (length listed.members + 1) book) (sym (all.planned.places.places number inside place moves at with))
        (place_within listed.members place (others number place at) moves (all.moves.moves number place moves at with)))

    is_plan : IsPlan plan book
    is_plan = record {
      start = let is = long in omega (arith, is);
      horizon = subst IsShort (sym all.planned.horizon) (let most = timetable.horizon.1 in (omega (arith, ints, most), omega (arith, ints, most)));
      places = subst (λ n. All (IsPlaceOf n book) plan.places) (sym long) (λ k one within. subst (IsPlaceOf (length listed.members + 1) book) (get_or_default plan.places k _ one within) (at_number k within));
    }

-- pieces and standing zones may be asked of the start
start_in : (net : Network) (settings : Settings) (request : Request) → IsAsked net request → IsSettingsWithinLimits settings → IsPlaceIn net settings request.train start_place
start_in net settings request asked timetable = record {
  under = record { blocks = asked.blocks; train_fits = asked.train; numbers = All-nil (λ block. block < length net.blocks) };
  timetable = timetable;
  entered = tt;
  begins = λ none. refl;
}

pub plans_over_may_be_searched : SoundNetworksAreAsked → PiecesAreClaims → StandingZonesAreOfTheNetwork → StepsLeadToPlaces → PlansOverMayBeSearched
plans_over_may_be_searched sound claims stands leads net settings request listed plan book all cut same =
    let asked = sound net request all.flawless all.asked.train all.asked.count in
    is_plan claims stands leads net settings request all.flawless all.asked all.timetable book same listed plan all
    (start_in net settings request asked all.timetable) cut

-- the plan of all places of a request is one over such places
pub over_of : (net : Network) (settings : Settings) (request : Request) (listed : Listed) (plan : Plan) → IsPlannedWithinLimits net settings request listed plan → IsPlannedOver net settings request listed plan
over_of net settings request listed plan all = record {
  flawless = all.flawless;
  asked = all.asked;
  timetable = all.timetable;
  moves = all.moves;
  planned = all.planned;
}

pub plans_may_be_searched : SoundNetworksAreAsked → PlacesMayBeCut → PiecesAreClaims → StandingZonesAreOfTheNetwork → StepsLeadToPlaces → PlansMayBeSearched
plans_may_be_searched sound cut claims stands leads net settings request listed plan book all same =
    let asked = sound net request all.flawless all.asked.train all.asked.count in
    let may = cut net settings request asked all.timetable in
    plans_over_may_be_searched sound claims stands leads net settings request listed plan book (over_of net settings request listed plan all)
    (λ number place at. may.places place (listed_is net request listed.members all.places number place at)) same
