-- Claims joined: the same ticks of each zone, in order, as few claims as can be.
use Rattle.std.specs.Prelude.{◌≡◌, ◌⊎◌, ◌↔◌, ◌<◌, ◌≤ℤ◌, ℕ, ℤ, Bool, nat_lt, nat_eq, int_lt, ◌||◌}
use Rattle.std.specs.Prelude.{◌&&◌, if◌then◌else◌, ◌≤◌, length, slice_index_or, take, List, [], ◌∷◌}
use Rattle.std.specs.Prelude.{◌++◌, All}
use Rattle.rail_types.specs.declared.tracks.Network.{Network}
use Rattle.rail_types.specs.declared.entries.Settings.{Settings}
use Rattle.rail_types.specs.declared.paths.Claim.{Claim}
use Rattle.rail_types.specs.declared.paths.Path.{Path}
use Rattle.rail_types.specs.Occupation.{AreJoined}
use Rattle.blocking_time.specs.Stairway.{claims_of_path}
use Rattle.blocking_time.specs.Ticks.{Covers}

-- the same ticks of each zone
abbrev pub CoverTheSame : List Claim → List Claim → Type 0
CoverTheSame some others = (zone : ℕ) (tick : ℤ) → Covers some zone tick ↔ Covers others zone tick

-- whether a claim is on a lower zone, or on the same one and ended before the other begins
abbrev pub ends_before : Claim → Claim → Bool
ends_before one later =
    nat_lt one.zone later.zone || (nat_eq one.zone later.zone && int_lt one.span.to later.span.from)

-- the ticks of two claims of one zone that overlap or touch, as one claim
abbrev pub hull : Claim → Claim → Claim
hull one other = record {
  zone = one.zone;
  span = record {
    from = if int_lt other.span.from one.span.from then other.span.from else one.span.from;
    to = if int_lt one.span.to other.span.to then other.span.to else one.span.to;
  };
}

-- joined claims with one more: those that end before it, it with all that it
-- overlaps or touches, those behind
abbrev pub joined_with : Claim → List Claim → List Claim
joined_with claim [] = claim ∷ []
joined_with claim (one ∷ others) =
    if ends_before one claim then one ∷ joined_with claim others
    else if ends_before claim one then claim ∷ one ∷ others
    else joined_with (hull one claim) others

-- the joined claims of any claims; one without ticks is left out
abbrev pub joined_claims : List Claim → List Claim
joined_claims [] = []
joined_claims (claim ∷ claims) =
    if int_lt claim.span.from claim.span.to then joined_with claim (joined_claims claims)
    else joined_claims claims

-- the claims for which a path is granted
abbrev pub blocked : Network → Settings → Path → List Claim
blocked net settings path = joined_claims (claims_of_path net settings path)

-- inside: on a lower zone, or on the same and not begun later
abbrev pub BeginsBy : Claim → Claim → Type 0
BeginsBy one other =
    (one.zone < other.zone)
    ⊎ ((one.zone ≡ other.zone) × (one.span.from ≤ℤ other.span.from))

-- inside: whether a claim is on a lower zone, or on the same and begins before the other
abbrev pub comes_first : Claim → Claim → Bool
comes_first one other =
    nat_lt one.zone other.zone
    || (nat_eq one.zone other.zone && int_lt one.span.from other.span.from)

-- inside: a claim is on the zone of one that begins by then, and begins before
-- that one ends or where it ends
abbrev pub Meets : Claim → Claim → Type 0
Meets one claim = (one.zone ≡ claim.zone) × (claim.span.from ≤ℤ one.span.to)

-- inside: both as one claim, where the first begins by then
abbrev pub united : Claim → Claim → Claim
united one claim = record {
  zone = one.zone;
  span = record {
    from = one.span.from;
    to = if int_lt one.span.to claim.span.to then claim.span.to else one.span.to;
  };
}

-- inside: claims with one more, which begins no earlier than they
pub record HasJoined (claims : List Claim) (claim : Claim) (new : List Claim) : Type 0 where
  pub joined : AreJoined new
  pub behind : All (λ one. BeginsBy one claim) new
  pub same : CoverTheSame new (claims ++ claim ∷ [])

-- inside: no claim begins after one that is still to come
abbrev pub NoneBehind : List Claim → List Claim → ℕ → Type 0
NoneBehind made sorted index =
    (k : ℕ) (other : Claim) → index ≤ k → k < length sorted
    → All (λ one. BeginsBy one (slice_index_or sorted k other)) made

-- inside: none begins before one in front of it
abbrev pub AreByBegin : List Claim → Type 0
AreByBegin sorted =
    (i j : ℕ) (other : Claim) → i ≤ j → j < length sorted
    → BeginsBy (slice_index_or sorted i other) (slice_index_or sorted j other)

-- inside: the claims in front of an index are joined
pub record AreJoinedUpTo (made sorted : List Claim) (index : ℕ) : Type 0 where
  pub joined : AreJoined made
  pub behind : NoneBehind made sorted index
  pub same : CoverTheSame made (take index sorted)
