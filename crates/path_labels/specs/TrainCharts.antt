-- The chart of a train: what each of its spots and ways takes, whatever a request asks of it.
use Rattle.std.specs.Prelude.{◌≡◌, ℕ, ◌≤◌, ◌<◌, pos, List, [], ◌∷◌, ◌++◌, map, length, All, drop}
use Rattle.std.specs.Prelude.{Some, None, if◌then◌else◌, nat_lt, slice_get}
use Rattle.std.specs.List.{slice_index_or}
use Rattle.rail_types.specs.declared.tracks.Network.{Network}
use Rattle.rail_types.specs.declared.trains.Train.{Train}
use Rattle.rail_types.specs.declared.entries.Settings.{Settings}
use Rattle.rail_types.specs.declared.paths.Claim.{Claim}
use Rattle.rail_types.specs.Flaws.{first_flaw}
use Rattle.rail_types.specs.Limits.{IsSettingsWithinLimits, IsTrainWithinLimits}
use Rattle.running_time.specs.declared.edges.Edge.{Edge}
use Rattle.running_time.specs.declared.edges.Edge.TheVariants.{Still as Halted, Rolling}
use Rattle.stair_pieces.specs.declared.places.Place.{Place}
use Rattle.stair_pieces.specs.declared.places.Step.{Step}
use Rattle.stair_pieces.specs.Places.{standing_zones, stands_after}
use Rattle.stair_pieces.specs.Pieces.{kept, pieces_of}
use Rattle.tail_states.specs.declared.listed_spots.TheConstants.{MAX_SPOTS}
use Rattle.tail_states.specs.declared.ways.Way.{Way}
use Rattle.tail_states.specs.Spots.{AreSpots, Spotted}
use Rattle.label_search.specs.declared.charts.Chart.{Chart}
use Rattle.label_search.specs.declared.charts.ChartSpot.{ChartSpot}
use Rattle.label_search.specs.declared.charts.ChartWay.{ChartWay}
use Rattle.label_search.specs.Charts.{spot_at}
use Rattle.path_labels.specs.declared.kept_charts.TheConstants.{MAX_CHARTS}
use Rattle.path_labels.specs.declared.train_charts.TrainChart.{TrainChart}
use Rattle.path_labels.specs.KeptNears.{IsNearKept}
use Rattle.path_labels.specs.Plans.{kept_at_end, ticks_in}

-- what a train claims with a step where it halts and the path ends
abbrev pub ending_in : Network → Settings → Train → Place → Step → Edge → List Claim
ending_in net settings train spot step Rolling = []
ending_in net settings train spot step Halted =
    pieces_of net settings train spot step ++ kept_at_end net settings train spot step

-- a way of the chart: its pieces at tick 0, and in their place what is claimed at an end
abbrev pub way_in : Network → Settings → Train → Place → Way → ChartWay
way_in net settings train spot way = record {
  block = way.step.block;
  halts = stands_after way.step.exit;
  next = way.next;
  run = ticks_in net settings train spot way.step;
  pieces = pieces_of net settings train spot way.step;
  ending = ending_in net settings train spot way.step way.step.exit;
}

-- a spot of the chart, with the claims of one tick of waiting there
abbrev pub spot_in : Network → Settings → Train → Place → List Way → ChartSpot
spot_in net settings train spot ways = record {
  standing = spot.standing;
  waits = kept (standing_zones net train spot) (pos 0) (pos 1);
  ways = map (way_in net settings train spot) ways;
}

-- what is charted for the listed spot of a number
abbrev pub IsChartedAt : Network → Settings → Train → Spotted → ℕ → ChartSpot → Type 0
IsChartedAt net settings train spotted number charted =
    (spot : Place) (ways : List Way) → slice_get spotted.spots number ≡ Some spot
    → slice_get spotted.ways number ≡ Some ways → charted ≡ spot_in net settings train spot ways

-- the chart has each listed spot at its number
pub record AreCharted (net : Network) (settings : Settings) (train : Train) (spotted : Spotted)
    (chart : Chart) : Type 0 where
  pub count : length chart.spots ≡ length spotted.spots
  pub spots : (number : ℕ) → number < length spotted.spots
      → IsChartedAt net settings train spotted number (spot_at chart.spots number)

-- The chart of a train on a network without a flaw; and what is kept of how near the train is to
-- calls is told of this chart.
pub record IsChartOf (net : Network) (settings : Settings) (train : Train) (chart : TrainChart)
    : Type 0 where
  pub train_is : chart.train ≡ train
  pub flawless : first_flaw net ≡ None
  pub timetable : IsSettingsWithinLimits settings
  pub within : IsTrainWithinLimits train
  pub spots : AreSpots net train chart.spots
  pub few : length chart.spots.spots ≤ MAX_SPOTS
  pub charted : AreCharted net settings train chart.spots chart.chart
  pub nears : All (IsNearKept chart.chart.spots) chart.nears

-- ---- charts that are kept

-- each of these is the chart of the train for which it is kept
abbrev pub AreCharts : Network → Settings → List TrainChart → Type 0
AreCharts net settings charts = All (λ kept. IsChartOf net settings kept.train kept) charts

-- where these are charts, in whatever network, one is the chart of the train
abbrev pub IsChartAmong : List TrainChart → Train → TrainChart → Type 0
IsChartAmong charts train chart =
    (net : Network) (settings : Settings)
    → AreCharts net settings charts → IsChartOf net settings train chart

-- what is kept after stays charts where what was kept before are
abbrev pub StayCharts : List TrainChart → List TrainChart → Type 0
StayCharts before after =
    (net : Network) (settings : Settings)
    → AreCharts net settings before → AreCharts net settings after

-- the same where a chart is put to them
abbrev pub StayChartsWith : TrainChart → List TrainChart → List TrainChart → Type 0
StayChartsWith chart before after =
    (net : Network) (settings : Settings) → IsChartOf net settings chart.train chart
    → AreCharts net settings before → AreCharts net settings after

-- without the first chart where no more could be kept
abbrev pub with_chart_room : List TrainChart → List TrainChart
with_chart_room charts = if nat_lt (length charts) MAX_CHARTS then charts else drop 1 charts

-- a chart that is kept for the train is taken out, and the others stay in their order
pub record IsChartTakenOut (before after : List TrainChart) (train : Train) (chart : TrainChart)
    : Type 0 where
  pub front : List TrainChart
  pub back : List TrainChart
  pub stood : before ≡ front ++ chart ∷ back
  pub train_is : chart.train ≡ train
  pub others : after ≡ front ++ back

-- inside: a chart of the train stands there
pub record IsChartAt (charts : List TrainChart) (train : Train) (at : ℕ) : Type 0 where
  pub within : at < length charts
  pub train_is : (d : TrainChart) → (slice_index_or charts at d).train ≡ train
