-- Inside: what the private calls of a compression hand to one another.
use Rattle.std.specs.Prelude.{◌≡◌, ◌≢◌, ℕ, ◌+◌, ◌-◌, ◌-ℤ◌, ◌<◌, ◌≤◌, ◌⊎◌, ℤ, pos, neg_ℤ, ◌+ℤ◌, ◌<ℤ◌}
use Rattle.std.specs.Prelude.{◌≤ℤ◌, List, length, map, take, slice_index_or, slice_set, All}
use Rattle.std.specs.Prelude.{Contains, Option, Some, None}
use Rattle.std.specs.List.{AllPairs}
use Rattle.rail_types.specs.declared.paths.Claim.{Claim}
use Rattle.rail_types.specs.declared.limits.TheConstants.{FAR_TICK}
use Rattle.capacity_406.specs.declared.trains.Occupied.{Occupied}
use Rattle.capacity_406.specs.declared.trains.Link.{Link}
use Rattle.capacity_406.specs.declared.claims.Taken.{Taken}
use Rattle.capacity_406.specs.declared.places.Place.{Place}
use Rattle.capacity_406.specs.declared.places.Cause.{Cause}
use Rattle.capacity_406.specs.Trains.{BeginsFirst, Has, IsFirstClaim, IsStart, claims_of}
use Rattle.capacity_406.specs.Compression.{IsCompression, shift_of}

-- on a lower zone, or on the same zone and begins no later
abbrev pub ComesBefore : Taken → Taken → Type 0
ComesBefore one later =
    (one.claim.zone < later.claim.zone)
    ⊎ ((one.claim.zone ≡ later.claim.zone) × (one.claim.span.from ≤ℤ later.claim.span.from))

-- that claim, taken by the train of that number
abbrev pub taken_by : ℕ → Claim → Taken
taken_by train claim = record { train = train; claim = claim }

-- on a lower zone than the claim, or on its zone and begins before it ends
abbrev pub IsOver : Taken → Claim → Type 0
IsOver one claim =
    (one.claim.zone < claim.zone)
    ⊎ ((one.claim.zone ≡ claim.zone) × (one.claim.span.from <ℤ claim.span.to))

-- the claims of the trains below that number, in any order
pub record AreTakenBefore (trains : List Occupied) (taken : List Taken) (end : ℕ) : Type 0 where
  pub had : All (λ one. Has trains one.train one.claim) taken
  pub all :
      (train : ℕ) (claim : Claim) → train < end → Has trains train claim →
      Contains taken (taken_by train claim)

-- the claims of all trains, by zone, then by begin
pub record AreTaken (trains : List Occupied) (taken : List Taken) : Type 0 where
  pub had : All (λ one. Has trains one.train one.claim) taken
  pub all :
      (train : ℕ) (claim : Claim) → Has trains train claim →
      Contains taken (taken_by train claim)
  pub sorted : AllPairs ComesBefore taken

-- on the claim's zone, and begins no earlier than the claim ends
abbrev pub IsBehind : Claim → Taken → Type 0
IsBehind claim other = (other.claim.zone ≡ claim.zone) × (claim.span.to ≤ℤ other.claim.span.from)

-- the first claim behind this one
abbrev pub IsNext : List Taken → Claim → Option Taken → Type 0
IsNext taken claim None = All (λ other. ¬ IsBehind claim other) taken
IsNext taken claim (Some next) =
    Contains taken next × IsBehind claim next ×
    All (λ other. IsBehind claim other → next.claim.span.from ≤ℤ other.claim.span.from) taken

-- the shift of the train of that number
abbrev pub place_at : List Place → ℕ → Place
place_at places train =
    slice_index_or places train (record { shift = pos 0; links = 0; cause = None })

abbrev pub shifts_of : List Place → List ℤ
shifts_of places = map (λ place. place.shift) places

-- a claim of the one train doesn't end later, after the shifts, than a claim of the other begins
abbrev pub Clears : List Place → ℕ → Claim → ℕ → Claim → Type 0
Clears places i a j b =
    (a.span.to +ℤ (place_at places i).shift) ≤ℤ (b.span.from +ℤ (place_at places j).shift)

abbrev pub ClearsIt : List Place → ℕ → Claim → Option Taken → Type 0
ClearsIt places train claim None = Unit {0}
ClearsIt places train claim (Some next) = Clears places train claim next.train next.claim

-- the claim ends, after the shifts, when the next one on its zone may begin
abbrev pub IsClear : List Taken → List Place → ℕ → Claim → Type 0
IsClear taken places train claim =
    (next : Option Taken) × IsNext taken claim next × ClearsIt places train claim next

-- all claims of the train are clear
abbrev pub AreClear : List Occupied → List Taken → List Place → ℕ → Type 0
AreClear trains taken places train =
    (claim : Claim) → Has trains train claim → IsClear taken places train claim

-- the train's claim begins, after the shifts, where one of another train, the cause's, on the same
-- zone ends
pub record IsHeld (trains : List Occupied) (train : ℕ) (cause : Cause) (mine theirs : Place)
    : Type 0 where
  pub two : cause.train ≢ train
  pub claim : Has trains train cause.claim
  pub earlier : Claim
  pub has : Has trains cause.train earlier
  pub zone : earlier.zone ≡ cause.claim.zone
  pub touch : earlier.span.to +ℤ theirs.shift ≡ cause.claim.span.from +ℤ mine.shift
  pub links : mine.links ≡ theirs.links + 1

-- why the train can't begin earlier: it begins at the least first begin, or a train is before it
-- whose shift is no less than the level
abbrev pub IsCaused : List Occupied → ℤ → List Place → ℕ → Place → Option Cause → Type 0
IsCaused trains level places train mine None =
    (claim : Claim) × IsFirstClaim (claims_of trains train) claim ×
    IsStart trains (claim.span.from +ℤ mine.shift)
IsCaused trains level places train mine (Some cause) =
    IsHeld trains train cause mine (place_at places cause.train) ×
    (level ≤ℤ (place_at places cause.train).shift)

-- shifts that no compression goes below; what keeps a train is settled, since its shift is no less
-- than the level
pub record AreBounds (trains : List Occupied) (level : ℤ) (places : List Place) : Type 0 where
  pub counted : length places ≡ length trains
  pub least :
      (others : List ℤ) → IsCompression trains others → (train : ℕ) → train < length trains →
      (place_at places train).shift ≤ℤ shift_of others train
  pub begun :
      (start : ℤ) (train : ℕ) (claim : Claim) → IsStart trains start → Has trains train claim →
      start ≤ℤ (claim.span.from +ℤ (place_at places train).shift)
  pub near : (train : ℕ) → neg_ℤ (FAR_TICK +ℤ FAR_TICK) ≤ℤ (place_at places train).shift
  pub early : (train : ℕ) → (place_at places train).shift ≤ℤ pos 0
  pub caused :
      (train : ℕ) → train < length trains →
      IsCaused trains level places train (place_at places train) (place_at places train).cause

-- each chain has at most so many links
abbrev pub AreShort : ℕ → List Place → Type 0
AreShort most places = (train : ℕ) → (place_at places train).links ≤ most

-- chains stay as short as one link more than those
abbrev pub KeepsShort : ℕ → List Place → List Place → Type 0
KeepsShort links old new = (most : ℕ) → links < most → AreShort most old → AreShort most new

-- shifts rise up to the level, and those that are no less than the level stay
pub record Rise (level : ℤ) (old new : List Place) : Type 0 where
  pub counted : length new ≡ length old
  pub rise : (train : ℕ) → (place_at old train).shift ≤ℤ (place_at new train).shift
  pub stay :
      (train : ℕ) → level ≤ℤ (place_at old train).shift → place_at new train ≡ place_at old train
  pub below :
      (train : ℕ) → (place_at old train).shift ≤ℤ level → (place_at new train).shift ≤ℤ level

-- the place of a train whose claim begins where that of the earlier one ends
pub record IsBehindIt (earlier next : Taken) (theirs mine : Place) : Type 0 where
  pub touch : earlier.claim.span.to +ℤ theirs.shift ≡ next.claim.span.from +ℤ mine.shift
  pub links : mine.links ≡ theirs.links + 1
  pub cause : mine.cause ≡ Some (record { train = earlier.train; claim = next.claim })

-- the later train is shifted as far as the earlier one needs, if it wasn't
abbrev pub IsRaised : Taken → Taken → List Place → List Place → Type 0
IsRaised earlier next old new =
    ((new ≡ old) × Clears old earlier.train earlier.claim next.train next.claim)
    ⊎ ((mine : Place) × IsBehindIt earlier next (place_at old earlier.train) mine
    × ((place_at old next.train).shift <ℤ mine.shift)
    × (new ≡ slice_set old next.train mine))

-- a claim of the list that begins first of so many
abbrev pub IsFirstOf : List Claim → ℕ → Claim → Type 0
IsFirstOf claims count first = Contains claims first × All (BeginsFirst first) (take count claims)

-- the first claim of the train of that number
abbrev pub first_of : List Claim → ℕ → Claim
first_of firsts train =
    slice_index_or firsts train
    (record { zone = 0; span = record { from = pos 0; to = pos 0 } })

-- the first claim of each train
pub record AreFirsts (trains : List Occupied) (firsts : List Claim) : Type 0 where
  pub counted : length firsts ≡ length trains
  pub first :
      (train : ℕ) → train < length trains →
      IsFirstClaim (claims_of trains train) (first_of firsts train)

-- each train begins when the earliest claim does, and nothing is before it
pub record AreStarted (earliest : Claim) (firsts : List Claim) (places : List Place) : Type 0 where
  pub counted : length places ≡ length firsts
  pub start :
      (train : ℕ) → train < length firsts →
      place_at places train ≡ record {
        shift = earliest.span.from -ℤ (first_of firsts train).span.from;
        links = 0;
        cause = None;
      }

-- the numbers below a count, in order
pub record IsCount (count : ℕ) (all : List ℕ) : Type 0 where
  pub counted : length all ≡ count
  pub each : (number : ℕ) → number < count → slice_index_or all number 0 ≡ number

-- the trains that wait may be shifted on, but no further than to the level; all others are settled
pub record IsSettling (trains : List Occupied) (taken : List Taken) (waiting : List ℕ)
    (places : List Place) : Type 0 where
  pub level : ℤ
  pub bounds : AreBounds trains level places
  pub trains_wait : All (λ train. train < length trains) waiting
  pub below : All (λ train. (place_at places train).shift ≤ℤ level) waiting
  pub others :
      (train : ℕ) → train < length trains →
      Contains waiting train
      ⊎ ((level ≤ℤ (place_at places train).shift) × AreClear trains taken places train)
  pub few : length waiting ≤ length trains
  pub short : AreShort (length trains - length waiting) places

-- the shifts of the least compression, with what keeps each train
pub record AreLeast (trains : List Occupied) (taken : List Taken) (places : List Place)
    : Type 0 where
  pub level : ℤ
  pub bounds : AreBounds trains level places
  pub clear : (train : ℕ) → train < length trains → AreClear trains taken places train

-- the first begin of the train of that number after the shifts
abbrev pub begin_at : List Claim → List Place → ℕ → ℤ
begin_at firsts places train = (first_of firsts train).span.from +ℤ (place_at places train).shift

-- the link of a claim of that train
abbrev pub link_of : ℕ → Claim → Place → Link
link_of train claim place =
    record { train = train; zone = claim.zone; at = claim.span.from +ℤ place.shift }

-- bounds at some level
abbrev pub AreHeld : List Occupied → List Place → Type 0
AreHeld trains places = (level : ℤ) × AreBounds trains level places

-- a shift that a train near the start may have
abbrev pub IsNearShift : ℤ → Type 0
IsNearShift shift = (neg_ℤ (FAR_TICK +ℤ FAR_TICK) ≤ℤ shift) × (shift ≤ℤ pos 0)
