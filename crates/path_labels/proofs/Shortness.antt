-- What is planned takes few ticks: a step, a way of a chart, a dwell.
use Rattle.std.proofs.Common.{◌≡◌, sym, refl, subst, All, ℕ, ◌+◌, ◌-◌, ◌≤◌, min, Bool, true, false, List, [], get_or, Option, Some, None, arith}
use Rattle.std.specs.Prelude.{pos, ◌<ℤ◌, ◌≤ℤ◌, slice_get}
use Rattle.std.proofs.lemmas.Int.{ints}
use Rattle.std.proofs.lemmas.List.{get_or_default}
use Rattle.std.proofs.lemmas.List.Elements.{All-map}
use Rattle.std.proofs.lemmas.Option.{slice_get_within, get_or_from_slice_get}
use Rattle.rail_types.specs.declared.tracks.Network.{Network}
use Rattle.rail_types.specs.declared.trains.Stop.{Stop}
use Rattle.rail_types.specs.declared.trains.Request.{Request}
use Rattle.rail_types.specs.declared.trains.Train.{Train}
use Rattle.rail_types.specs.declared.entries.Settings.{Settings}
use Rattle.rail_types.specs.Limits.{IsSettingsWithinLimits, IsRequestWithinLimits}
use Rattle.running_time.proofs.Ticks.{takes_a_tick}
use Rattle.blocking_time.specs.Runs.{block_at}
use Rattle.stair_pieces.specs.declared.places.Place.{Place}
use Rattle.stair_pieces.specs.declared.places.Step.{Step}
use Rattle.stair_pieces.specs.Places.{start_place, entry_of}
use Rattle.label_search.specs.declared.charts.ChartCall.{ChartCall}
use Rattle.label_search.specs.declared.charts.ChartSpot.{ChartSpot}
use Rattle.label_search.specs.declared.charts.ChartWay.{ChartWay}
use Rattle.label_search.specs.Nearing.{HaveShortDwells, HaveShortRuns}
use Rattle.label_search.specs.Plans.{IsShort}
use Rattle.path_labels.specs.declared.train_charts.TrainChart.{TrainChart}
use Rattle.path_labels.specs.ChartCourses.{AreCalls}
use Rattle.path_labels.specs.KeptNears.{IsNearKept}
use Rattle.path_labels.specs.Plans.{ticks_in, dwell_of, dwell_at}
use Rattle.path_labels.specs.TrainCharts.{IsChartOf, way_in}
use Rattle.path_labels.proofs.Product.{spot_is}

pub ticks_few : (net : Network) (settings : Settings) (train : Train) (place : Place) (step : Step) → IsSettingsWithinLimits settings
    → (pos 0 <ℤ ticks_in net settings train place step) × (ticks_in net settings train place step ≤ℤ pos 17281)
ticks_few net settings train place step timetable = go _ (takes_a_tick (block_at net step.block) train settings (entry_of net train place) step.exit (block_at net step.block).length_m) timetable.horizon.1
  where
    go : (ticks : ℕ) → 1 ≤ ticks → settings.horizon ≤ 17280 → (pos 0 <ℤ pos (min ticks (settings.horizon + 1))) × (pos (min ticks (settings.horizon + 1)) ≤ℤ pos 17281)
    go ticks some most = (omega (arith, ints), omega (arith, ints))

pub dwell_short : (request : Request) (made : ℕ) (standing : Bool) → IsRequestWithinLimits request → IsShort (dwell_at request made standing)
dwell_short request made false asked = (omega (arith, ints), omega (arith, ints))
dwell_short request made true asked = go (slice_get request.stops (made - 1)) refl
  where
    go : (stop : Option Stop) → slice_get request.stops (made - 1) ≡ stop → IsShort (dwell_of stop)
    go None at = (omega (arith, ints), omega (arith, ints))
    go (Some stop) at =
        let least : stop.dwell ≤ 17280 = subst (λ one. one.dwell ≤ 17280) (get_or_from_slice_get request.stops (made - 1) stop stop at) (asked.dwells (made - 1) stop (slice_get_within request.stops (made - 1) stop at)) in
        (omega (arith, ints, least), omega (arith, ints, least))

-- ---- of a chart and of what is asked of it

pub ways_short : (net : Network) (settings : Settings) (train : Train) (chart : TrainChart) → IsChartOf net settings train chart → HaveShortRuns chart.chart.spots
ways_short net settings train chart is k one within =
    let spots = chart.chart.spots in
    let spot = get_or chart.spots.spots k start_place in
    let own = get_or chart.spots.ways k [] in
    let here = spot_is net settings train chart is k (let same = is.charted.count in omega (arith, within, same)) in
    subst (λ (there : ChartSpot). All (λ (way : ChartWay). IsShort way.run) there.ways) (get_or_default spots k _ one within)
    (subst (λ (there : ChartSpot). All (λ (way : ChartWay). IsShort way.run) there.ways) (sym here.charted)
    (All-map (λ (way : ChartWay). IsShort way.run) (way_in net settings train spot) own (λ number way inside.
    let few = ticks_few net settings train spot (get_or own number way).step is.timetable in let low = few.0 in let high = few.1 in
    (omega (arith, ints, low), omega (arith, ints, high)))))

pub dwells_short : (net : Network) (request : Request) (calls : List ChartCall) → IsRequestWithinLimits request → AreCalls net request calls → HaveShortDwells calls
dwells_short net request calls asked are k one within =
    subst (λ (call : ChartCall). IsShort call.dwell) (get_or_default calls k _ one within)
    (subst IsShort (sym (are.dwells k within)) (dwell_short request k true asked))

-- ---- what is kept beside a chart changes

pub stays_chart : (net : Network) (settings : Settings) (train : Train) (before after : TrainChart) → after.train ≡ before.train → after.spots ≡ before.spots → after.chart ≡ before.chart
    → All (IsNearKept before.chart.spots) after.nears → IsChartOf net settings train before → IsChartOf net settings train after
stays_chart net settings train before after train_same spots_same chart_same near is =
    let same : after ≡ record { train = before.train; spots = before.spots; chart = before.chart; roads = after.roads; nears = after.nears } =
    λ j. record { train = train_same j; spots = spots_same j; chart = chart_same j; roads = after.roads; nears = after.nears } in
    subst (IsChartOf net settings train) (sym same) (record {
      train_is = is.train_is;
      flawless = is.flawless;
      timetable = is.timetable;
      within = is.within;
      spots = is.spots;
      few = is.few;
      charted = is.charted;
      nears = near;
    })
