-- The course of a request over the chart of its train.
use Rattle.std.specs.Prelude.{◌≡◌, ◌↔◌, ℕ, ◌+◌, ◌*◌, ◌/◌, ◌%◌, ◌<◌, pos, true}
use Rattle.std.specs.Prelude.{List, [], ◌∷◌, ◌++◌, map, length, All, Contains, Some, slice_get}
use Rattle.std.specs.Prelude.{if◌then◌else◌}
use Rattle.std.specs.List.{range_with_len, slice_index_or}
use Rattle.rail_types.specs.declared.limits.TheConstants.{MAX_PLACES}
use Rattle.rail_types.specs.declared.tracks.Network.{Network}
use Rattle.rail_types.specs.declared.trains.Request.{Request}
use Rattle.rail_types.specs.declared.entries.Settings.{Settings}
use Rattle.rail_types.specs.Limits.{IsRequestWithinLimits}
use Rattle.occupation_book.specs.Zones.{Zone}
use Rattle.blocking_time.specs.Runs.{block_at, exit_of}
use Rattle.running_time.specs.declared.edges.Edge.TheVariants.{Still as Halted, Rolling}
use Rattle.stair_pieces.specs.declared.places.Place.{Place}
use Rattle.stair_pieces.specs.declared.places.Step.{Step}
use Rattle.stair_pieces.specs.Places.{start_place}
use Rattle.tail_states.specs.declared.moves.Move.{Move}
use Rattle.tail_states.specs.declared.moves.Next.TheVariants.{End as Ends, At}
use Rattle.tail_states.specs.declared.ways.Way.{Way}
use Rattle.tail_states.specs.Asked.{next_stop}
use Rattle.tail_states.specs.Listed.{HasMoreThan, Listed}
use Rattle.tail_states.specs.Spots.{AreFewEnough, HasWay, spot_after, with_made}
use Rattle.label_search.specs.declared.charts.ChartCall.{ChartCall}
use Rattle.label_search.specs.declared.charts.ChartSpot.{ChartSpot}
use Rattle.label_search.specs.declared.charts.ChartWay.{ChartWay}
use Rattle.label_search.specs.declared.plans.Plan.{Plan}
use Rattle.label_search.specs.Charts.{HasNumbers, LeadOnChart, call_at, ends_path, is_called}
use Rattle.label_search.specs.Charts.{made_behind, open_ways, plan_over, spot_at}
use Rattle.label_search.specs.Nearing.{AreRests}
use Rattle.label_search.specs.Plans.{IsPlan}
use Rattle.path_labels.specs.declared.chart_courses.ChartCourse.{ChartCourse}
use Rattle.path_labels.specs.declared.train_charts.TrainChart.{TrainChart}
use Rattle.path_labels.specs.AllPlaces.{HasAllPlaces}
use Rattle.path_labels.specs.KeptNears.{AreNearAt, near_kept}
use Rattle.path_labels.specs.Plans.{dwell_at}
use Rattle.path_labels.specs.Searched.{AreCut, IsPlannedOver}
use Rattle.path_labels.specs.TrainCharts.{IsChartOf, way_in}

-- ---- what a request asks of its chart

-- what is asked at each count of stops made, those of the request in order and its destination
pub record AreCalls (net : Network) (request : Request) (calls : List ChartCall) : Type 0 where
  pub count : length calls ≡ length request.stops + 1
  pub dwells : (made : ℕ) → made < length calls
      → (call_at calls made).dwell ≡ dwell_at request made true
  pub halts : (made block : ℕ) → made < length calls → block < length net.blocks
      → ((is_called (call_at calls made) block ≡ true)
      ↔ Contains (block_at net block).serves (next_stop request made))

-- a step with which a path of the request may begin
pub record IsBeginning (net : Network) (request : Request) (step : Step) : Type 0 where
  pub within : step.block < length net.blocks
  pub begins : Contains (block_at net step.block).serves request.origin

-- a way from the start, and the spot that it leads to
pub record IsStartWay (net : Network) (request : Request) (spots : List Place) (way : Way)
    : Type 0 where
  pub begins : IsBeginning net request way.step
  pub leads : slice_get spots way.next
      ≡ Some (spot_after net request.train start_place way.step)

-- exactly the ways of the start
pub record AreStarts (net : Network) (settings : Settings) (request : Request) (spots : List Place)
    (starts : List ChartWay) : Type 0 where
  pub listed : List Way
  pub sound : All (IsStartWay net request spots) listed
  pub whole : (step : Step) → IsBeginning net request step → HasWay listed step
  pub planned : starts ≡ map (way_in net settings request.train start_place) listed

-- What is asked of the chart of a train by a request, whose places the chart bounds.
pub record IsOverChart (net : Network) (settings : Settings) (request : Request)
    (chart : TrainChart) (starts : List ChartWay) (calls : List ChartCall) : Type 0 where
  pub chart_is : IsChartOf net settings request.train chart
  pub few : AreFewEnough request chart.spots
  pub starts_are : AreStarts net settings request chart.spots.spots starts
  pub calls_are : AreCalls net request calls

-- the plan of a course
abbrev pub plan_along : Settings → ChartCourse → Plan
plan_along settings course =
    plan_over course.chart.chart.spots course.starts course.calls (pos settings.horizon)

-- The course of a request over the chart of its train, with the numbers at which the chart keeps
-- how near the train is to each call, and what is left behind each by that.
pub record IsChartCourse (net : Network) (settings : Settings) (request : Request)
    (course : ChartCourse) : Type 0 where
  pub over : IsOverChart net settings request course.chart course.starts course.calls
  pub kept : AreNearAt course.chart.nears course.calls course.numbers.items
  pub left : AreRests course.chart.chart.spots course.calls
      (map (near_kept course.chart.nears) course.numbers.items) course.rests

-- a request that has such a course has no more places than are searched
abbrev pub ChartCoursesAreNarrow : Type 0
ChartCoursesAreNarrow =
    (net : Network) (settings : Settings) (request : Request) (course : ChartCourse)
    → IsRequestWithinLimits request → IsChartCourse net settings request course
    → ¬ HasMoreThan MAX_PLACES net request

-- ---- inside: the places and moves that such a course stands for

-- the place of a number: each spot with each count of stops made
abbrev pub member_along : List Place → ℕ → ℕ → Place
member_along spots levels number =
    with_made (slice_index_or spots (number / levels) start_place) (number % levels)

abbrev pub members_along : List Place → ℕ → List Place
members_along spots levels =
    map (member_along spots levels) (range_with_len 0 (length spots * levels))

-- the move that an open way is where so many stops are made
abbrev pub listed_move : ℕ → ℕ → ChartWay → Move
listed_move levels made way = record {
  step = record { block = way.block; exit = exit_of way.halts };
  next =
      if ends_path levels made way.halts
      then Ends
      else At (way.next * levels + made_behind way.halts made);
}

abbrev pub listed_moves : List ChartCall → ℕ → List ChartWay → List Move
listed_moves calls made ways =
    map (listed_move (length calls) made) (open_ways calls made ways)

abbrev pub moves_along : List ChartSpot → List ChartCall → ℕ → List Move
moves_along charted calls number =
    listed_moves calls (number % length calls) (spot_at charted (number / length calls)).ways

-- All of them as they would be listed: more places than those of the request, but from each exactly
-- its moves.
abbrev pub listed_over : TrainChart → List ChartWay → List ChartCall → Listed
listed_over chart starts calls = record {
  members = members_along chart.spots.spots (length calls);
  starts = listed_moves calls 0 starts;
  moves = map (moves_along chart.chart.spots calls)
      (range_with_len 0 (length chart.chart.spots * length calls));
}

abbrev pub listed_along : ChartCourse → Listed
listed_along course = listed_over course.chart course.starts course.calls

-- what is so listed is planned, pieces may be asked of each place, and the plan may be lent and
-- searched in each book of as many zones as the network has
pub record IsPlannedAlong (net : Network) (settings : Settings) (request : Request)
    (chart : TrainChart) (starts : List ChartWay) (calls : List ChartCall) : Type 0 where
  pub over : IsPlannedOver net settings request (listed_over chart starts calls)
      (plan_over chart.chart.spots starts calls (pos settings.horizon))
  pub cut : AreCut net settings request (listed_over chart starts calls)
  pub leads : LeadOnChart chart.chart.spots starts
  pub numbers : HasNumbers chart.chart.spots calls
  pub searched : (book : List Zone) → length book ≡ net.zones
      → IsPlan (plan_over chart.chart.spots starts calls (pos settings.horizon)) book

abbrev pub ChartsArePlanned : Type 0
ChartsArePlanned =
    (net : Network) (settings : Settings) (request : Request) (chart : TrainChart)
    (starts : List ChartWay) (calls : List ChartCall) → IsRequestWithinLimits request
    → IsOverChart net settings request chart starts calls
    → IsPlannedAlong net settings request chart starts calls

-- the places of a request with a course over the chart of its train can be listed
abbrev pub ChartCoursesHaveThePlaces : Type 0
ChartCoursesHaveThePlaces =
    (net : Network) (settings : Settings) (request : Request) (course : ChartCourse)
    → IsRequestWithinLimits request → IsChartCourse net settings request course
    → (places : Listed) × HasAllPlaces net settings request places

-- ---- inside: how the ways of the start and the calls are made

-- a way from the start onto a block is put behind the others
abbrev pub AddsStart : Network → Settings → TrainChart → Step → List ChartWay → List ChartWay
    → Type 0
AddsStart net settings chart step old new =
    (way : Way) × (way.step ≡ step)
    × (slice_get chart.spots.spots way.next
    ≡ Some (spot_after net chart.train start_place step))
    × (new ≡ old ++ way_in net settings chart.train start_place way ∷ [])

-- the way that rolls on and the way that halts
abbrev pub AddsStarts : Network → Settings → TrainChart → ℕ → List ChartWay → List ChartWay
    → Type 0
AddsStarts net settings chart block old new =
    (mid : List ChartWay)
    × AddsStart net settings chart (record { block = block; exit = Rolling }) old mid
    × AddsStart net settings chart (record { block = block; exit = Halted }) mid new

-- what is asked where so many stops are made
pub record IsCallAt (net : Network) (request : Request) (made : ℕ) (call : ChartCall) : Type 0 where
  pub dwells : call.dwell ≡ dwell_at request made true
  pub halts : (block : ℕ) → block < length net.blocks → ((is_called call block ≡ true)
      ↔ Contains (block_at net block).serves (next_stop request made))
