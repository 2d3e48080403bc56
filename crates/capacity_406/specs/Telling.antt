-- *inside*: what the private calls that tell a capacity hand to one another.
use Rattle.std.specs.Prelude.{◌≡◌, ℕ, ◌<◌, ℤ, pos, ◌+ℤ◌, ◌-ℤ◌, ◌≤ℤ◌, List, [], ◌∷◌, length}
use Rattle.rail_types.specs.declared.entries.Owner.{Owner}
use Rattle.rail_types.specs.declared.paths.Claim.{Claim}
use Rattle.rail_types.specs.declared.paths.Span.{Span}
use Rattle.capacity_406.specs.declared.reports.Told.{Told}
use Rattle.capacity_406.specs.declared.trains.Occupied.{Occupied}
use Rattle.capacity_406.specs.Trains.{IsFirstClaim, owner_of}
use Rattle.capacity_406.specs.Compression.{shift_of}
use Rattle.capacity_406.specs.Inside.{first_of}
use Rattle.capacity_406.specs.Report.{told_at}

-- a span, moved by so many ticks
abbrev pub moved_by : ℤ → Span → Span
moved_by shift span = record { from = span.from +ℤ shift; to = span.to +ℤ shift }

-- the ticks of a train's first claim after the shifts
abbrev pub span_of : List Claim → List ℤ → ℕ → Span
span_of firsts shifts train = moved_by (shift_of shifts train) (first_of firsts train).span

-- where a train's first claim ends after the shifts
abbrev pub ends_at : List Claim → List ℤ → ℕ → ℤ
ends_at firsts shifts train = (span_of firsts shifts train).to

-- what is told of an owner, by its first claim and its shift
abbrev pub told_by : Owner → Claim → ℤ → Told
told_by owner first shift =
    record { owner = owner; begin = first.span.from +ℤ shift; shift = shift }

-- what is told of each train, by its first claim and its shift
pub record AreToldBy (trains : List Occupied) (firsts : List Claim) (shifts : List ℤ)
    (told : List Told) : Type 0 where
  pub counted : length told ≡ length trains
  pub each : (train : ℕ) → train < length trains
      → told_at told train ≡ told_by (owner_of trains train) (first_of firsts train)
      (shift_of shifts train)

-- the time from the earliest of these claims to the last end after the shifts
pub record IsTimeBetween (firsts : List Claim) (shifts : List ℤ) (occupied : ℕ) : Type 0 where
  pub earliest : Claim
  pub is_first : IsFirstClaim firsts earliest
  pub last : ℕ
  pub below : last < length firsts
  pub latest : (train : ℕ) → train < length firsts
      → ends_at firsts shifts train ≤ℤ ends_at firsts shifts last
  pub time : pos occupied ≡ ends_at firsts shifts last -ℤ earliest.span.from

-- that time, 0 without claims
abbrev pub IsTimeOf : List Claim → List ℤ → ℕ → Type 0
IsTimeOf [] shifts occupied = occupied ≡ 0
IsTimeOf (first ∷ rest) shifts occupied = IsTimeBetween (first ∷ rest) shifts occupied
