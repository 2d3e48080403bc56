-- What is listed over the chart of a train is planned: each spot with each count of stops made.
use Rattle.std.proofs.Common.{◌≡◌, ◌∙◌, refl, sym, ap, subst, arith, append-nil, ℕ, suc, ◌+◌, ◌*◌, ◌/◌, ◌%◌, ◌<◌, ℤ, pos, Bool, true, false, List, [], ◌∷◌, ◌++◌, length, map, get_or, All, Some, nat_le, if◌then◌else◌}
use Rattle.std.specs.Prelude.{slice_get}
use Rattle.std.specs.List.{range_with_len}
use Rattle.std.proofs.lemmas.List.Elements.{All-head, All-tail, All-map, All-filter}
use Rattle.std.proofs.lemmas.Nat.{div_below, mod_below}
use Rattle.rail_types.specs.declared.tracks.Network.{Network}
use Rattle.rail_types.specs.declared.trains.Request.{Request}
use Rattle.rail_types.specs.declared.entries.Settings.{Settings}
use Rattle.rail_types.specs.declared.paths.Claim.{Claim}
use Rattle.running_time.specs.declared.edges.Edge.{Edge}
use Rattle.running_time.specs.declared.edges.Edge.TheVariants.{Still as Halted, Rolling}
use Rattle.stair_pieces.specs.declared.places.Place.{Place}
use Rattle.stair_pieces.specs.declared.places.Step.{Step}
use Rattle.stair_pieces.specs.Places.{start_place, standing_zones}
use Rattle.stair_pieces.specs.Pieces.{kept, pieces_of}
use Rattle.tail_states.specs.declared.moves.Move.{Move}
use Rattle.tail_states.specs.declared.moves.Next.TheVariants.{End as Ends, At}
use Rattle.tail_states.specs.declared.ways.Way.{Way}
use Rattle.tail_states.specs.Spots.{with_made}
use Rattle.label_search.specs.declared.charts.ChartCall.{ChartCall}
use Rattle.label_search.specs.declared.charts.ChartSpot.{ChartSpot}
use Rattle.label_search.specs.declared.charts.ChartWay.{ChartWay}
use Rattle.label_search.specs.declared.plans.Move.{Move as PlannedMove}
use Rattle.label_search.specs.declared.plans.Target.{Target}
use Rattle.label_search.specs.declared.plans.Target.TheVariants.{Place as To, End}
use Rattle.label_search.specs.Charts.{call_at, count_over, dwell_over, is_open, move_of_way, moves_over, open_ways, place_over, plan_over, stay_over}
use Rattle.path_labels.specs.declared.train_charts.TrainChart.{TrainChart}
use Rattle.path_labels.specs.Plans.{IsPlanOf, dwell_at, kept_at_end, kept_behind, move_in, place_in, target_of, ticks_in}
use Rattle.path_labels.specs.TrainCharts.{spot_in, way_in}
use Rattle.path_labels.specs.ChartCourses.{IsOverChart, listed_move, listed_moves, listed_over, member_along, members_along, moves_along}
use Rattle.path_labels.proofs.Product.{members_count, numbered_count, numbered_is, numbered_or, spot_is}

-- each is made at once or by a stage between
maps_alike : {A B C : Type 0} (f : A → C) (g : B → C) (h : A → B) (xs : List A) → All (λ x. f x ≡ g (h x)) xs → map f xs ≡ map g (map h xs)
maps_alike f g h [] all = refl
maps_alike {A} f g h (x ∷ xs) all =
    let first : f x ≡ g (h x) = All-head (λ (x : A). f x ≡ g (h x)) x xs all in
    let rest : map f xs ≡ map g (map h xs) = maps_alike f g h xs (All-tail (λ (x : A). f x ≡ g (h x)) x xs all) in
    λ j. first j ∷ rest j

-- a planned move by its parts
abbrev planned : Target → ℤ → List Claim → PlannedMove
planned target run pieces = record { target = target; run = run; pieces = pieces }

module _ (net : Network) (settings : Settings) (request : Request) where
  module _ (spot : Place) (levels made : ℕ) where
    -- a way is planned as the move that it is listed as
    abbrev IsAlike : ChartWay → Type 0
    IsAlike way = move_of_way levels made way ≡ move_in net settings request (with_made spot made) (listed_move levels made way)

    module _ (block next : ℕ) where
      abbrev along : Edge → Step
      along exit = record { block = block; exit = exit }

      abbrev rolling : List Claim
      rolling = pieces_of net settings request.train spot (along Rolling)

      abbrev halting : List Claim
      halting = pieces_of net settings request.train spot (along Halted)

      halts_alike : (ends : Bool)
          → planned (if ends then End else To (next * levels + (made + 1) + 1)) (ticks_in net settings request.train spot (along Halted)) (if ends then halting ++ kept_at_end net settings request.train spot (along Halted) else halting)
          ≡ planned (target_of (if ends then Ends else At (next * levels + (made + 1)))) (ticks_in net settings request.train spot (along Halted))
          (halting ++ kept_behind net settings request (with_made spot made) (along Halted) (if ends then Ends else At (next * levels + (made + 1))))
      halts_alike true = refl
      halts_alike false = ap (planned (To (next * levels + (made + 1) + 1)) (ticks_in net settings request.train spot (along Halted))) (sym (append-nil halting))

      by_exit : (exit : Edge) → IsAlike (way_in net settings request.train spot (record { step = along exit; next = next }))
      by_exit Rolling = ap (planned (To (next * levels + made + 1)) (ticks_in net settings request.train spot (along Rolling))) (sym (append-nil rolling))
      by_exit Halted = halts_alike (nat_le levels (made + 1))

    way_alike : (way : Way) → IsAlike (way_in net settings request.train spot way)
    way_alike way = by_exit way.step.block way.next way.step.exit

  module _ (calls : List ChartCall) (spot : Place) (own : List Way) (made : ℕ) where
    abbrev charted : List ChartWay
    charted = map (way_in net settings request.train spot) own

    -- the open ways of a spot are planned as the moves that they are listed as
    moves_alike : moves_over calls made charted ≡ map (move_in net settings request (with_made spot made)) (listed_moves calls made charted)
    moves_alike =
        maps_alike (move_of_way (length calls) made) (move_in net settings request (with_made spot made)) (listed_move (length calls) made) (open_ways calls made charted)
        (All-filter (is_open (call_at calls made)) (IsAlike spot (length calls) made) charted
        (All-map (IsAlike spot (length calls) made) (way_in net settings request.train spot) own
        (λ k one within. way_alike spot (length calls) made (get_or own k one))))

    dwells_alike : (call_at calls made).dwell ≡ dwell_at request made true → (standing : Bool) → dwell_over calls made standing ≡ dwell_at request made standing
    dwells_alike is true = is
    dwells_alike is false = refl

    stay_alike : (call_at calls made).dwell ≡ dwell_at request made true
        → stay_over calls made (spot_in net settings request.train spot own) ≡ place_in net settings request (with_made spot made) (listed_moves calls made charted)
    stay_alike is =
        let dwell : dwell_over calls made spot.standing ≡ dwell_at request made spot.standing = dwells_alike is spot.standing in
        λ j. record {
          standing = spot.standing;
          dwell = dwell j;
          waits = kept (standing_zones net request.train spot) (pos 0) (pos 1);
          moves = moves_alike j;
        }

  module _ (chart : TrainChart) (starts : List ChartWay) (calls : List ChartCall) (over : IsOverChart net settings request chart starts calls) where
    abbrev levels : ℕ
    levels = length calls

    abbrev spots : List Place
    spots = chart.spots.spots

    abbrev all_charted : List ChartSpot
    all_charted = chart.chart.spots

    pub has_levels : 0 < levels
    has_levels = let is = over.calls_are.count in omega (arith, is)

    -- there are as many moves and places as spots with each count
    pub same_count : length all_charted * levels ≡ length spots * levels
    same_count = ap (λ n. n * levels) over.chart_is.charted.count

    start_planned : place_over all_charted starts calls 0 ≡ place_in net settings request start_place (listed_moves calls 0 starts)
    start_planned = subst (λ ways. place_over all_charted ways calls 0 ≡ place_in net settings request start_place (listed_moves calls 0 ways)) (sym over.starts_are.planned)
        (stay_alike calls start_place over.starts_are.listed 0 (over.calls_are.dwells 0 has_levels))

    place_planned : (number : ℕ) → number < length spots * levels → (place : Place) (moves : List Move) → slice_get (members_along spots levels) number ≡ Some place
        → slice_get (map (moves_along all_charted calls) (range_with_len 0 (length all_charted * levels))) number ≡ Some moves
        → place_over all_charted starts calls (suc number) ≡ place_in net settings request place moves
    place_planned number within place moves at with =
        let here = spot_is net settings request.train chart over.chart_is (number / levels) (div_below number levels (length spots) has_levels within) in
        let spot = get_or spots (number / levels) start_place in
        let own = get_or chart.spots.ways (number / levels) [] in
        let made = number % levels in
        let there : with_made spot made ≡ place = sym (numbered_is (member_along spots levels) (length spots * levels) number place at) in
        let those : listed_moves calls made (map (way_in net settings request.train spot) own) ≡ moves =
        sym (numbered_is (moves_along all_charted calls) (length all_charted * levels) number moves with ∙ ap (λ (one : ChartSpot). listed_moves calls made one.ways) here.charted) in
        let told : place_in net settings request (with_made spot made) (listed_moves calls made (map (way_in net settings request.train spot) own)) ≡ place_in net settings request place moves =
        λ j. place_in net settings request (there j) (those j) in
        ap (stay_over calls made) here.charted ∙ stay_alike calls spot own made (over.calls_are.dwells made (mod_below number levels has_levels)) ∙ told

    pub over_planned : IsPlanOf net settings request (listed_over chart starts calls) (plan_over all_charted starts calls (pos settings.horizon))
    over_planned = record {
      places = record {
        counted = numbered_count (place_over all_charted starts calls) (count_over all_charted calls) ∙ ap (λ n. n + 1) (same_count ∙ sym (members_count spots levels));
        start = numbered_or (place_over all_charted starts calls) (count_over all_charted calls) 0 _ (omega arith) ∙ start_planned;
        places = λ number less place moves at with.
            let inside : number < length spots * levels = subst (λ n. number < n) (members_count spots levels) less in
            let next : number + 1 ≡ suc number = omega arith in
            let same = same_count in
            numbered_or (place_over all_charted starts calls) (count_over all_charted calls) (number + 1) _ (omega (arith, inside, same))
            ∙ ap (place_over all_charted starts calls) next
            ∙ place_planned number inside place moves at with;
      };
      horizon = refl;
    }
