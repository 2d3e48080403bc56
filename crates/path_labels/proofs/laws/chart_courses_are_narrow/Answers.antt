use Rattle.tail_states.specs.Asked.{SoundNetworksAreAsked}
use Rattle.tail_states.specs.Spots.{SpotsBoundPlaces}
use Rattle.path_labels.specs.ChartCourses.{ChartCoursesAreNarrow}
use Rattle.path_labels.proofs.laws.chart_courses_are_narrow.Goals as goal

narrow : SoundNetworksAreAsked → SpotsBoundPlaces → ChartCoursesAreNarrow
narrow sound bound net settings request course within is =
    let chart = is.over.chart_is in
    bound net request course.chart.spots (sound net request chart.flawless within.train within.count) chart.spots is.over.few

pub returns : goal.returns
returns c = narrow c.sound_networks_are_asked.ensures c.spots_bound_places.ensures
