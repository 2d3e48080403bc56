-- A request with a course has no more places than its course.
use Rattle.std.proofs.Common.{◌≡◌, ◌≢◌, ℕ, ◌≤◌, All, Bool, true, false, Contains, Decides, List, get_or, length, refl, arith}
use Rattle.std.proofs.lemmas.List.Elements.{All-contains}
use Rattle.std.proofs.lemmas.Map.Keys.{IsDistinct-from_apart}
use Rattle.std.proofs.lemmas.Map.Made.{is_member-Decides, length-le_from_is_member}
use Rattle.path_labels.specs.Courses.{CoursesHaveThePlaces}
use Rattle.rail_types.specs.declared.limits.TheConstants.{MAX_PLACES}
use Rattle.rail_types.specs.declared.tracks.Network.{Network}
use Rattle.rail_types.specs.declared.trains.Request.{Request}
use Rattle.stair_pieces.specs.declared.places.Place.{Place}
use Rattle.stair_pieces.specs.Alike.{same_place, same_place-Decides, same_place-equiv}
use Rattle.tail_states.specs.Alike.{AreListedAlike, WindowsChangeNoPlaces}
use Rattle.tail_states.specs.Listed.{AreThePlaces, HasMoreThan, HasNoneTwice}

-- ---- the places of a request are no more than are listed

apart : (a b : Place) → a ≢ b → same_place a b ≡ false
apart a b differ = go (same_place a b) (same_place-Decides a b)
  where
    go : (test : Bool) → Decides test (a ≡ b) → test ≡ false
    go true tells = absurd (differ (tells.0 refl))
    go false tells = refl

-- places, each once, are no more than those of a list that contains them
pub no_longer : (members places : List Place) → HasNoneTwice places → All (Contains members) places → length places ≤ length members
no_longer members places distinct all =
    length-le_from_is_member same_place-equiv places members
    (IsDistinct-from_apart same_place places
    (λ i j d before within. apart (get_or places i d) (get_or places j d) (distinct i j d before within)))
    (λ place among. (is_member-Decides same_place-Decides members place).1
    (All-contains (Contains members) places place all
    ((is_member-Decides same_place-Decides places place).0 among)))

not_more : (net : Network) (request : Request) (members : List Place) → AreThePlaces net request members → (most : ℕ) → length members ≤ most → ¬ HasMoreThan most net request
not_more net request members are most few (places, more, distinct, all) =
    let least = no_longer members places distinct (λ k d within. are.whole (get_or places k d) (all k d within)) in
    omega (arith, more, least, few)

-- ---- of a request

pub have_the_places : WindowsChangeNoPlaces → CoursesHaveThePlaces
have_the_places windows net settings request course is =
    let alike : AreListedAlike net is.worked_for request = windows net is.worked_for request is.alike in
    let places : AreThePlaces net request course.places.members = alike.places course.places.members is.planned.places in record {
      places = places;
      moves = alike.moves course.places is.planned.moves;
      narrow = not_more net request course.places.members places MAX_PLACES is.planned.few;
    }
