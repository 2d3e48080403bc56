use Rattle.path_labels.specs.ChartCourses.{ChartCoursesAreNarrow, ChartCoursesHaveThePlaces, ChartsArePlanned, listed_along}
use Rattle.path_labels.proofs.ChartSteps.{planned_along}
use Rattle.path_labels.proofs.Reached.{reached_of}
use Rattle.path_labels.proofs.Reaching.{reached_few, reached_moves, reached_places}
use Rattle.path_labels.proofs.laws.chart_courses_have_the_places.Goals as goal

have_the_places : ChartsArePlanned → ChartCoursesAreNarrow → ChartCoursesHaveThePlaces
have_the_places planned narrow net settings request course asked is =
    let over = (planned_along planned net settings request course asked is).over in (
      reached_of (listed_along course),
      record {
        flawless = over.flawless;
        timetable = over.timetable;
        places = reached_places net request (listed_along course) over.moves;
        moves = reached_moves net request (listed_along course) over.moves;
        few = reached_few net request (listed_along course) over.moves (narrow net settings request course asked is);
      },
    )

pub returns : goal.returns
returns c = have_the_places c.charts_are_planned.ensures c.chart_courses_are_narrow.ensures
