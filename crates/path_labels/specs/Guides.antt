-- What guides the search of a request: its course over listed places, or over a chart.
use Rattle.std.specs.Prelude.{◌≡◌, List, [], ◌∷◌, ◌++◌}
use Rattle.rail_types.specs.declared.limits.TheConstants.{MAX_PLACES}
use Rattle.rail_types.specs.declared.tracks.Network.{Network}
use Rattle.rail_types.specs.declared.trains.Request.{Request}
use Rattle.rail_types.specs.declared.entries.Settings.{Settings}
use Rattle.rail_types.specs.Limits.{IsRequestWithinLimits}
use Rattle.tail_states.specs.Listed.{HasMoreThan, Listed}
use Rattle.path_labels.specs.declared.guides.Guide.{Guide}
use Rattle.path_labels.specs.declared.guides.Guide.TheVariants as guide
use Rattle.path_labels.specs.declared.kept_courses.KeptCourse.{KeptCourse}
use Rattle.path_labels.specs.declared.train_charts.TrainChart.{TrainChart}
use Rattle.path_labels.specs.AllPlaces.{HasAllPlaces}
use Rattle.path_labels.specs.ChartCourses.{IsChartCourse}
use Rattle.path_labels.specs.Courses.{IsCourse, IsSmall, kept_for, with_room}
use Rattle.path_labels.specs.TrainCharts.{with_chart_room}

-- the course of the request, over listed places or over the chart of its train
abbrev pub IsGuide : Network → Settings → Request → Guide → Type 0
IsGuide net settings request (guide.Listed course) = IsCourse net settings request course
IsGuide net settings request (guide.Charted course) = IsChartCourse net settings request course

-- the places of a request with a guide can be listed
abbrev pub GuidesHaveThePlaces : Type 0
GuidesHaveThePlaces =
    (net : Network) (settings : Settings) (request : Request) (one : Guide)
    → IsRequestWithinLimits request → IsGuide net settings request one
    → (places : Listed) × HasAllPlaces net settings request places

-- a request with a guide has no more places than are searched
abbrev pub GuidesAreNarrow : Type 0
GuidesAreNarrow =
    (net : Network) (settings : Settings) (request : Request) (one : Guide)
    → IsRequestWithinLimits request → IsGuide net settings request one
    → ¬ HasMoreThan MAX_PLACES net request

-- What is kept of courses and charts behind the search of a request: where its places were listed,
-- its course behind the others, but where it has too many places; or else the chart of its train
-- behind the others.
abbrev pub AreKeptWith : Request → Guide → List KeptCourse → List KeptCourse → List TrainChart
    → List TrainChart → Type 0
AreKeptWith request (guide.Listed course) courses courses_after charts charts_after =
    (IsSmall course → courses_after ≡ with_room courses ++ kept_for request course ∷ [])
    × (¬ IsSmall course → courses_after ≡ courses)
    × (charts_after ≡ charts)
AreKeptWith request (guide.Charted course) courses courses_after charts charts_after =
    (courses_after ≡ courses) × (charts_after ≡ with_chart_room charts ++ course.chart ∷ [])
