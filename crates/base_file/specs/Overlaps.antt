-- The first overlap of two trains: the first clash by zone, then by the later of the two begins.
use Rattle.std.specs.Prelude.{◌≡◌, ◌⊎◌, ℕ, ◌+◌, ◌<◌, ◌≤◌, ℤ, ◌<ℤ◌, Bool, ◌&&◌, nat_lt, nat_eq}
use Rattle.std.specs.Prelude.{int_lt, if◌then◌else◌, Option, Some, None, List, length}
use Rattle.std.specs.Prelude.{slice_index_or, All, AllPairs, Contains}
use Rattle.std.specs.List.{AllAdjacentBelow}
use Rattle.std.specs.Ordering.{int_eq}
use Rattle.rail_types.specs.declared.bases.BaseClaim.{BaseClaim}
use Rattle.rail_types.specs.Occupation.{Clash, EndsBefore, HasTicks}
use Rattle.base_file.specs.declared.overlaps.Pair.{Pair}

-- claims of two trains, the lower index first, which clash
pub record AreOverlapping (claims : List BaseClaim) (one other : BaseClaim) : Type 0 where
  pub one_stands : Contains claims one
  pub other_stands : Contains claims other
  pub trains : one.train < other.train
  pub clash : Clash one.claim other.claim

-- the later of the two begins
abbrev pub later_begin : BaseClaim → BaseClaim → ℤ
later_begin one other =
    if int_lt one.claim.span.from other.claim.span.from then other.claim.span.from
    else one.claim.span.from

-- a pair of trains comes before another or is the same
abbrev pub TrainsBy : ℕ → ℕ → ℕ → ℕ → Type 0
TrainsBy a b c d = (a < c) ⊎ ((a ≡ c) × (b ≤ d))

-- of two overlaps of one zone the first comes before the second, or is told alike
abbrev pub BeginsBy : BaseClaim → BaseClaim → BaseClaim → BaseClaim → Type 0
BeginsBy one other x y =
    (later_begin one other <ℤ later_begin x y)
    ⊎ ((later_begin one other ≡ later_begin x y) × TrainsBy one.train other.train x.train y.train)

-- the first overlap comes before the second, or is told alike: by zone, then by
-- the later begin, then by trains
abbrev pub IsNoLater : BaseClaim → BaseClaim → BaseClaim → BaseClaim → Type 0
IsNoLater one other x y =
    (one.claim.zone < x.claim.zone)
    ⊎ ((one.claim.zone ≡ x.claim.zone) × BeginsBy one other x y)

-- two claims overlap, and no two overlap before them
pub record IsFirstPair (claims : List BaseClaim) (one other : BaseClaim) : Type 0 where
  pub overlapping : AreOverlapping claims one other
  pub first : (x y : BaseClaim) → AreOverlapping claims x y → IsNoLater one other x y

-- the first overlap is on this zone, of these trains
pub record IsFirstOverlap (claims : List BaseClaim) (zone a b : ℕ) : Type 0 where
  pub one : BaseClaim
  pub other : BaseClaim
  pub pair : IsFirstPair claims one other
  pub zone_is : one.claim.zone ≡ zone
  pub a_is : one.train ≡ a
  pub b_is : other.train ≡ b

-- a claim of a train before, or of the same train and one that ends before on
-- its zone or is on a lower zone
abbrev pub StandsBefore : BaseClaim → BaseClaim → Type 0
StandsBefore one later =
    (one.train < later.train)
    ⊎ ((one.train ≡ later.train) × EndsBefore one.claim later.claim)

-- inside: two claims do not clash
abbrev pub Apart : BaseClaim → BaseClaim → Type 0
Apart one other = ¬ Clash one.claim other.claim

-- inside: claims of one train do not clash
abbrev pub ApartAtHome : BaseClaim → BaseClaim → Type 0
ApartAtHome one other = one.train ≡ other.train → Apart one other

-- inside: whether a claim is on a lower zone, begins before on the same, or begins with the
-- other and is of a lower train
abbrev pub comes_first : BaseClaim → BaseClaim → Bool
comes_first one other =
    if nat_eq one.claim.zone other.claim.zone then
    if int_eq one.claim.span.from other.claim.span.from then nat_lt one.train other.train
    else int_lt one.claim.span.from other.claim.span.from
    else nat_lt one.claim.zone other.claim.zone

-- inside: one claim does not come after another by zone, begin and train
abbrev pub ComesBy : BaseClaim → BaseClaim → Type 0
ComesBy one other =
    (one.claim.zone < other.claim.zone)
    ⊎ ((one.claim.zone ≡ other.claim.zone)
    × ((one.claim.span.from <ℤ other.claim.span.from)
    ⊎ ((one.claim.span.from ≡ other.claim.span.from) × (one.train ≤ other.train))))

-- inside: none comes before one in front of it
abbrev pub AreInOrder : List BaseClaim → Type 0
AreInOrder sorted =
    (i j : ℕ) (d : BaseClaim) → i ≤ j → j < length sorted
    → ComesBy (slice_index_or sorted i d) (slice_index_or sorted j d)

-- inside: claims that have ticks, in order, of which no two of one train clash
pub record AreSorted (sorted : List BaseClaim) : Type 0 where
  pub order : AreInOrder sorted
  pub ticks : All (λ one. HasTicks one.claim.span) sorted
  pub home : AllPairs ApartAtHome sorted

-- inside: the first of the claims that clashes with the next
pub record IsFirstAt (sorted : List BaseClaim) (at : ℕ) : Type 0 where
  pub within : at + 1 < length sorted
  pub clash : (d : BaseClaim)
      → Clash (slice_index_or sorted at d).claim (slice_index_or sorted (at + 1) d).claim
  pub before : AllAdjacentBelow Apart sorted (at + 1)

abbrev pub pair_of : BaseClaim → BaseClaim → Pair
pair_of one other = record { one = one; other = other }

-- inside: whether a claim begins with another on its zone
abbrev pub begins_with : BaseClaim → BaseClaim → Bool
begins_with one other =
    nat_eq one.claim.zone other.claim.zone
    && int_eq one.claim.span.from other.claim.span.from

-- inside: the pair of the claim behind with the lower of the trains of the claim in
-- front and the one that is next
abbrev pub pair_behind : BaseClaim → BaseClaim → Option BaseClaim → Pair
pair_behind left right None = pair_of right left
pair_behind left right (Some next) =
    if begins_with right next && nat_lt next.train left.train then pair_of right next
    else pair_of right left

-- inside: of a claim, one behind it that clashes with it, and the next, the two
-- of the least trains that clash
abbrev pub least_pair : BaseClaim → BaseClaim → Option BaseClaim → Pair
least_pair left right next =
    if nat_lt left.train right.train then pair_of left right else pair_behind left right next

-- inside: no two claims clash, or the first two that do
abbrev pub TellsPair : List BaseClaim → Option Pair → Type 0
TellsPair claims None = AllPairs Apart claims
TellsPair claims (Some pair) = IsFirstPair claims pair.one pair.other
