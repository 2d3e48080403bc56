-- What a search needs of a request, whatever its windows.
use Rattle.std.specs.Prelude.{◌≡◌, ℕ, ◌≤◌, ◌<◌, List, ◌∷◌, ◌++◌, All, length, drop, nat_lt}
use Rattle.std.specs.Prelude.{if◌then◌else◌}
use Rattle.std.specs.List.{slice_index_or}
use Rattle.rail_types.specs.declared.tracks.Network.{Network}
use Rattle.rail_types.specs.declared.trains.Request.{Request}
use Rattle.rail_types.specs.declared.entries.Settings.{Settings}
use Rattle.rail_types.specs.declared.limits.TheConstants.{MAX_PLACES}
use Rattle.label_search.specs.Limits.{IsAhead, IsConsistent}
use Rattle.tail_states.specs.Alike.{AreAlike}
use Rattle.tail_states.specs.Listed.{AreTheMoves, AreThePlaces, HasMoreThan}
use Rattle.path_labels.specs.Searched.{IsPlannedWithinLimits}
use Rattle.path_labels.specs.declared.course_searches.Course.{Course}
use Rattle.path_labels.specs.declared.kept_courses.KeptCourse.{KeptCourse}
use Rattle.path_labels.specs.declared.kept_courses.TheConstants.{MAX_COURSES, MAX_KEPT_PLACES}

-- The course of a request: it was worked out for one that differs in its windows alone, and has its
-- places, their plan, and ticks that no train falls short of from each place to an end.
pub record IsCourse (net : Network) (settings : Settings) (request : Request) (course : Course)
    : Type 0 where
  pub worked_for : Request
  pub alike : AreAlike worked_for request
  pub planned : IsPlannedWithinLimits net settings worked_for course.places course.plan
  pub ahead : All IsAhead course.ahead
  pub consistent : IsConsistent course.plan course.ahead

-- The places of a course are those of the request, which has no more than are searched.
pub record HasThePlaces (net : Network) (request : Request) (course : Course) : Type 0 where
  pub places : AreThePlaces net request course.places.members
  pub moves : AreTheMoves net request course.places
  pub narrow : ¬ HasMoreThan MAX_PLACES net request

-- the course of a request has its places
abbrev pub CoursesHaveThePlaces : Type 0
CoursesHaveThePlaces =
    (net : Network) (settings : Settings) (request : Request) (course : Course)
    → IsCourse net settings request course → HasThePlaces net request course

-- each of these is the course of the request for which it is kept
abbrev pub AreCourses : Network → Settings → List KeptCourse → Type 0
AreCourses net settings courses =
    All (λ kept. IsCourse net settings kept.request kept.course) courses

-- where these are courses, in whatever network, one is the course of the request
abbrev pub IsCourseAmong : List KeptCourse → Request → Course → Type 0
IsCourseAmong courses request course =
    (net : Network) (settings : Settings)
    → AreCourses net settings courses → IsCourse net settings request course

-- what is kept after stays courses where what was kept before are
abbrev pub StayCourses : List KeptCourse → List KeptCourse → Type 0
StayCourses before after =
    (net : Network) (settings : Settings)
    → AreCourses net settings before → AreCourses net settings after

-- the same where the course of a request is put to them
abbrev pub StayCoursesWith : Request → Course → List KeptCourse → List KeptCourse → Type 0
StayCoursesWith request course before after =
    (net : Network) (settings : Settings) → IsCourse net settings request course
    → AreCourses net settings before → AreCourses net settings after

-- a course with few enough places to be kept
abbrev pub IsSmall : Course → Type 0
IsSmall course = length course.places.members ≤ MAX_KEPT_PLACES

-- what is true of all that are kept: they are few enough, and each is small
pub record AreFew (courses : List KeptCourse) : Type 0 where
  pub count : length courses ≤ MAX_COURSES
  pub small : All (λ kept. IsSmall kept.course) courses

-- the course of a request as it is kept
abbrev pub kept_for : Request → Course → KeptCourse
kept_for request course = record { request = request; course = course }

-- without the first course where no more could be kept
abbrev pub with_room : List KeptCourse → List KeptCourse
with_room courses = if nat_lt (length courses) MAX_COURSES then courses else drop 1 courses

-- a course that is kept for such a request is taken out, and the others stay in their order
pub record IsTakenOut (before after : List KeptCourse) (request : Request) (course : Course)
    : Type 0 where
  pub front : List KeptCourse
  pub kept : KeptCourse
  pub back : List KeptCourse
  pub stood : before ≡ front ++ kept ∷ back
  pub alike : AreAlike kept.request request
  pub its_course : kept.course ≡ course
  pub others : after ≡ front ++ back

-- inside: a course that is kept for such a request stands there
pub record IsAlikeAt (courses : List KeptCourse) (request : Request) (at : ℕ) : Type 0 where
  pub within : at < length courses
  pub alike : (d : KeptCourse) → AreAlike (slice_index_or courses at d).request request
