use Rattle.std.proofs.Common.{◌≡◌, sym, subst, arith, ℕ, ◌+◌, ◌*◌, ◌/◌, ◌%◌, ◌<◌, ◌≤◌, List, [], length, get_or, Some, pos}
use Rattle.std.specs.Prelude.{slice_get}
use Rattle.std.proofs.lemmas.List.{get_or_default}
use Rattle.std.proofs.lemmas.List.Elements.{All-map}
use Rattle.std.proofs.lemmas.Nat.{div_below}
use Rattle.std.proofs.lemmas.Option.{slice_get_within}
use Rattle.rail_types.specs.declared.tracks.Network.{Network}
use Rattle.rail_types.specs.declared.trains.Request.{Request}
use Rattle.rail_types.specs.declared.entries.Settings.{Settings}
use Rattle.rail_types.specs.Limits.{IsRequestWithinLimits}
use Rattle.stair_pieces.specs.declared.places.Place.{Place}
use Rattle.stair_pieces.specs.Places.{start_place}
use Rattle.stair_pieces.specs.Steps.{IsPlaceIn}
use Rattle.tail_states.specs.Spots.{with_made}
use Rattle.label_search.specs.declared.charts.ChartCall.{ChartCall}
use Rattle.label_search.specs.declared.charts.ChartSpot.{ChartSpot}
use Rattle.label_search.specs.declared.charts.ChartWay.{ChartWay}
use Rattle.label_search.specs.Charts.{HasNumbers, LeadOnChart, LeadWithin, plan_over, spot_at}
use Rattle.path_labels.specs.declared.train_charts.TrainChart.{TrainChart}
use Rattle.path_labels.specs.ChartCourses.{ChartsArePlanned, IsOverChart, listed_over, member_along}
use Rattle.path_labels.specs.Searched.{AreCut, IsPlannedOver, PlansOverMayBeSearched}
use Rattle.path_labels.specs.TrainCharts.{way_in}
use Rattle.path_labels.proofs.Alongside.{has_levels, over_planned}
use Rattle.path_labels.proofs.Product.{numbered_is, numbered_within, spot_is}
use Rattle.path_labels.proofs.Walking.{over_moves}
use Rattle.path_labels.proofs.laws.charts_are_planned.Goals as goal

module _ (net : Network) (settings : Settings) (request : Request) (chart : TrainChart) (starts : List ChartWay) (calls : List ChartCall) (over : IsOverChart net settings request chart starts calls) where
  abbrev spots : List Place
  spots = chart.spots.spots

  abbrev charted : List ChartSpot
  charted = chart.chart.spots

  are_cut : AreCut net settings request (listed_over chart starts calls)
  are_cut number place at =
      let within = numbered_within (member_along spots (length calls)) (length spots * length calls) number place at in
      let here = spot_is net settings request.train chart over.chart_is (number / length calls)
      (div_below number (length calls) (length spots) (has_levels net settings request chart starts calls over) within) in
      let spot = get_or spots (number / length calls) start_place in
      let is : IsPlaceIn net settings request.train (with_made spot (number % length calls)) = record {
        under = here.sound.under;
        timetable = over.chart_is.timetable;
        entered = here.sound.entered;
        begins = λ none. absurd (here.sound.gone none);
      } in
      subst (IsPlaceIn net settings request.train) (sym (numbered_is (member_along spots (length calls)) (length spots * length calls) number place at)) is

  -- a way to a spot leads to one of the chart
  leads_within : (next : ℕ) (spot : Place) → slice_get spots next ≡ Some spot → next < length charted
  leads_within next spot at = let within = slice_get_within spots next spot at in let same = over.chart_is.charted.count in omega (arith, within, same)

  starts_lead : LeadWithin (length charted) starts
  starts_lead = subst (LeadWithin (length charted)) (sym over.starts_are.planned)
      (All-map (λ (way : ChartWay). way.next < length charted) (way_in net settings request.train start_place) over.starts_are.listed
      (λ k way within. leads_within (get_or over.starts_are.listed k way).next _ (over.starts_are.sound k way within).leads))

  ways_lead : (number : ℕ) → number < length charted → LeadWithin (length charted) (spot_at charted number).ways
  ways_lead number within =
      let here = spot_is net settings request.train chart over.chart_is number (let same = over.chart_is.charted.count in omega (arith, within, same)) in
      let spot = get_or spots number start_place in
      let own = get_or chart.spots.ways number [] in
      subst (λ (one : ChartSpot). LeadWithin (length charted) one.ways) (sym here.charted)
      (All-map (λ (way : ChartWay). way.next < length charted) (way_in net settings request.train spot) own
      (λ k way inside. leads_within (get_or own k way).next _ (here.ways.sound k way inside).leads))

  all_lead : LeadOnChart charted starts
  all_lead = record {
    starts_lead = starts_lead;
    ways_lead = λ k one within. subst (λ (spot : ChartSpot). LeadWithin (length charted) spot.ways) (get_or_default charted k _ one within) (ways_lead k within);
  }

  has_numbers : IsRequestWithinLimits request → HasNumbers charted calls
  has_numbers asked =
      let count = over.calls_are.count in
      let most : length request.stops ≤ 16 = asked.count in
      let few : length spots * (length request.stops + 1) ≤ 65536 = over.few in
      let same : length charted * length calls ≡ length spots * (length request.stops + 1) = λ j. over.chart_is.charted.count j * count j in
      record {
        called = omega (arith, count);
        few_calls = omega (arith, count, most);
        few = omega (arith, same, few);
      }

charts_planned : PlansOverMayBeSearched → ChartsArePlanned
charts_planned searched net settings request chart starts calls asked over =
    let listed = listed_over chart starts calls in
    let plan = plan_over chart.chart.spots starts calls (pos settings.horizon) in
    let planned : IsPlannedOver net settings request listed plan = record {
      flawless = over.chart_is.flawless;
      asked = asked;
      timetable = over.chart_is.timetable;
      moves = over_moves net settings request chart starts calls over;
      planned = over_planned net settings request chart starts calls over;
    } in
    let cut = are_cut net settings request chart starts calls over in
    record {
      over = planned;
      cut = cut;
      leads = all_lead net settings request chart starts calls over;
      numbers = has_numbers net settings request chart starts calls over asked;
      searched = λ book same. searched net settings request listed plan book planned cut same;
    }

pub returns : goal.returns
returns c = charts_planned c.plans_over_may_be_searched.ensures
