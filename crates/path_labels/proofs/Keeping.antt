-- A course is that of each request that differs in its windows alone; courses that are kept.
use Rattle.std.proofs.Common.{◌≡◌, refl, sym, ◌∙◌, ap, subst, ℕ, suc, ◌<◌, ◌≤◌, Bool, true, false, List, ◌∷◌, [], ◌++◌, All, length, take, drop, drop-cons, remove, get_or, arith, if◌then◌else◌}
use Rattle.std.specs.Prelude.{nat_lt}
use Rattle.std.proofs.lemmas.Bool.Decides.{nat_tests}
use Rattle.std.proofs.lemmas.List.{length-append, length-drop, take-append-drop}
use Rattle.std.proofs.lemmas.List.Elements.{All-cons, All-drop, All-head, All-push, All-tail}
use Rattle.rail_types.specs.declared.tracks.Network.{Network}
use Rattle.rail_types.specs.declared.trains.Request.{Request}
use Rattle.rail_types.specs.declared.entries.Settings.{Settings}
use Rattle.label_search.specs.Limits.{IsAhead, IsConsistent}
use Rattle.tail_states.specs.Alike.{AreAlike}
use Rattle.path_labels.specs.declared.course_searches.Course.{Course}
use Rattle.path_labels.specs.declared.kept_courses.KeptCourse.{KeptCourse}
use Rattle.path_labels.specs.declared.kept_courses.TheConstants.{MAX_COURSES}
use Rattle.path_labels.specs.Courses.{AreFew, IsAlikeAt, IsCourse, IsCourseAmong, IsSmall, IsTakenOut, StayCourses, StayCoursesWith, with_room}
use Rattle.path_labels.specs.Searched.{IsPlannedWithinLimits}

-- ---- the course of a request

pub worked_out : (net : Network) (settings : Settings) (request : Request) (course : Course) → IsPlannedWithinLimits net settings request course.places course.plan → All IsAhead course.ahead → IsConsistent course.plan course.ahead
    → IsCourse net settings request course
worked_out net settings request course planned ahead consistent = record {
  worked_for = request;
  alike = record { train = refl; origin = refl; destination = refl; stops = refl };
  planned = planned;
  ahead = ahead;
  consistent = consistent;
}

alike_behind : (one other third : Request) → AreAlike one other → AreAlike other third → AreAlike one third
alike_behind one other third first then_too = record {
  train = first.train ∙ then_too.train;
  origin = first.origin ∙ then_too.origin;
  destination = first.destination ∙ then_too.destination;
  stops = first.stops ∙ then_too.stops;
}

-- the course of a request is that of each that is alike
serves_alike : (net : Network) (settings : Settings) (one other : Request) (course : Course) → IsCourse net settings one course → AreAlike one other → IsCourse net settings other course
serves_alike net settings one other course is alike = record {
  worked_for = is.worked_for;
  alike = alike_behind is.worked_for one other is.alike alike;
  planned = is.planned;
  ahead = is.ahead;
  consistent = is.consistent;
}

-- ---- a course is taken out

abbrev IsKept : Network → Settings → KeptCourse → Type 0
IsKept net settings kept = IsCourse net settings kept.request kept.course

abbrev HasFewPlaces : KeptCourse → Type 0
HasFewPlaces kept = IsSmall kept.course

module _ {X : Type 0} where
  pub stands_between : (all : List X) (at : ℕ) (one : X) → at < length all → one ≡ get_or all at one → all ≡ take at all ++ one ∷ drop (suc at) all
  stands_between all at one within is =
      sym (take-append-drop at all)
      ∙ ap (λ (rest : List X). take at all ++ rest) (drop-cons all at one within ∙ ap (λ (first : X). first ∷ drop (suc at) all) (sym is))

  -- what is true of all is true of one among them, and of the others
  pub All-apart : (P : X → Type 0) (front : List X) (kept : X) (back : List X) → All P (front ++ kept ∷ back) → P kept × All P (front ++ back)
  All-apart P [] kept back all = (All-head P kept back all, All-tail P kept back all)
  All-apart P (one ∷ front) kept back all =
      let rest = All-apart P front kept back (All-tail P one (front ++ kept ∷ back) all) in
      (rest.0, All-cons P one (front ++ back) (All-head P one (front ++ kept ∷ back) all) rest.1)

pub taken_out : (before inside after : List KeptCourse) (request : Request) (at : ℕ) (one : KeptCourse) → inside ≡ before → IsAlikeAt inside request at → one ≡ get_or inside at one → after ≡ remove inside at
    → IsTakenOut before after request one.course
taken_out before inside after request at one same found is left = record {
  front = take at inside;
  kept = one;
  back = drop (suc at) inside;
  stood = sym same ∙ stands_between inside at one found.within is;
  alike = subst (λ (kept : KeptCourse). AreAlike kept.request request) (sym is) (found.alike one);
  its_course = refl;
  others = left;
}

module _ (before after : List KeptCourse) (request : Request) (course : Course) (out : IsTakenOut before after request course) where
  apart : (P : KeptCourse → Type 0) → All P before → P out.kept × All P after
  apart P all =
      let both = All-apart P out.front out.kept out.back (subst (All P) out.stood all) in
      (both.0, subst (All P) (sym out.others) both.1)

  pub among : IsCourseAmong before request course
  among net settings all =
      subst (IsCourse net settings request) out.its_course
      (serves_alike net settings out.kept.request request out.kept.course (apart (IsKept net settings) all).0 out.alike)

  pub stay_without : StayCourses before after
  stay_without net settings all = (apart (IsKept net settings) all).1

  pub few_without : AreFew before → AreFew after
  few_without few = record {
    count =
        let whole = ap length out.stood in
        let rest = ap length out.others in
        let most = few.count in
        omega (arith, whole, rest, most, length-append out.front (out.kept ∷ out.back), length-append out.front out.back);
    small = (apart HasFewPlaces few.small).1;
  }

-- ---- a course is kept

All-with_room : (P : KeptCourse → Type 0) (courses : List KeptCourse) → All P courses → All P (with_room courses)
All-with_room P courses all = go (nat_lt (length courses) MAX_COURSES)
  where
    go : (room : Bool) → All P (if room then courses else drop 1 courses)
    go true = all
    go false = All-drop P 1 courses all

pub with_room-below : (courses : List KeptCourse) → length courses ≤ MAX_COURSES → length (with_room courses) < MAX_COURSES
with_room-below courses most = go (nat_lt (length courses) MAX_COURSES) refl
  where
    go : (room : Bool) → nat_lt (length courses) MAX_COURSES ≡ room → length (if room then courses else drop 1 courses) < MAX_COURSES
    go true is = grind (arith, nat_tests)
    go false is = let less = length-drop 1 courses in omega (arith, less, most)

All-with : (P : KeptCourse → Type 0) (before after : List KeptCourse) (kept : KeptCourse) → after ≡ with_room before ++ kept ∷ [] → All P before → P kept → All P after
All-with P before after kept same all last =
    subst (All P) (sym same) (All-push P (with_room before) kept (All-with_room P before all) last)

pub stay_with : (before after : List KeptCourse) (kept : KeptCourse) → after ≡ with_room before ++ kept ∷ [] → StayCoursesWith kept.request kept.course before after
stay_with before after kept same net settings is all = All-with (IsKept net settings) before after kept same all is

pub few_with : (before after : List KeptCourse) (kept : KeptCourse) → after ≡ with_room before ++ kept ∷ [] → AreFew before → IsSmall kept.course → AreFew after
few_with before after kept same few small = record {
  count =
      let whole = ap length same in
      let less = with_room-below before few.count in
      omega (arith, whole, less, length-append (with_room before) (kept ∷ []));
  small = All-with HasFewPlaces before after kept same few.small small;
}
