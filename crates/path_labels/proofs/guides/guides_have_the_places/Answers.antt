use Rattle.path_labels.specs.declared.guides.Guide.TheVariants as guide
use Rattle.path_labels.specs.ChartCourses.{ChartCoursesHaveThePlaces}
use Rattle.path_labels.specs.Courses.{CoursesHaveThePlaces}
use Rattle.path_labels.specs.Guides.{GuidesHaveThePlaces}
use Rattle.path_labels.proofs.guides.guides_have_the_places.Goals as goal

have_the_places : CoursesHaveThePlaces → ChartCoursesHaveThePlaces → GuidesHaveThePlaces
have_the_places listed charted net settings request (guide.Listed course) asked is =
    let has = listed net settings request course is in (
      course.places,
      record {
        flawless = is.planned.flawless;
        timetable = is.planned.timetable;
        places = has.places;
        moves = has.moves;
        few = is.planned.few;
      },
    )
have_the_places listed charted net settings request (guide.Charted course) asked is = charted net settings request course asked is

pub returns : goal.returns
returns c = have_the_places c.courses_have_the_places.ensures c.chart_courses_have_the_places.ensures
