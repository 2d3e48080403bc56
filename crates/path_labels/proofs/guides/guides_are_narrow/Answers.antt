use Rattle.path_labels.specs.declared.guides.Guide.TheVariants as guide
use Rattle.path_labels.specs.ChartCourses.{ChartCoursesAreNarrow}
use Rattle.path_labels.specs.Courses.{CoursesHaveThePlaces}
use Rattle.path_labels.specs.Guides.{GuidesAreNarrow}
use Rattle.path_labels.proofs.guides.guides_are_narrow.Goals as goal

narrow : CoursesHaveThePlaces → ChartCoursesAreNarrow → GuidesAreNarrow
narrow listed charted net settings request (guide.Listed course) asked is = (listed net settings request course is).narrow
narrow listed charted net settings request (guide.Charted course) asked is = charted net settings request course asked is

pub returns : goal.returns
returns c = narrow c.courses_have_the_places.ensures c.chart_courses_are_narrow.ensures
