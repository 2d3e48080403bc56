-- When two trains want one zone at once.
use Rattle.std.specs.Prelude.{◌≡◌, ◌⊎◌, ◌<◌, ◌<ℤ◌, ◌≤ℤ◌, ℤ, List, All, AllPairs}
use Rattle.rail_types.specs.declared.paths.Span.{Span}
use Rattle.rail_types.specs.declared.paths.Claim.{Claim}
use Rattle.rail_types.specs.declared.entries.Owner.{Owner}

-- each span begins before the other ends
abbrev pub Overlap : Span → Span → Type 0
Overlap a b = (a.from <ℤ b.to) × (b.from <ℤ a.to)

-- two claims are on one zone, and their spans overlap
abbrev pub Clash : Claim → Claim → Type 0
Clash a b = (a.zone ≡ b.zone) × Overlap a.span b.span

-- no claim of the one list clashes with a claim of the other
abbrev pub Fits : List Claim → List Claim → Type 0
Fits claims live = All (λ claim. All (λ other. ¬ Clash claim other) live) claims

-- a tick of a span, which ends before `to`
abbrev pub IsTickOf : Span → ℤ → Type 0
IsTickOf a tick = (a.from ≤ℤ tick) × (tick <ℤ a.to)

-- a span with a tick in it
abbrev pub HasTicks : Span → Type 0
HasTicks a = a.from <ℤ a.to

-- on a lower zone, or on the same one and ended before the other begins
abbrev pub EndsBefore : Claim → Claim → Type 0
EndsBefore one later =
    (one.zone < later.zone) ⊎ ((one.zone ≡ later.zone) × (one.span.to <ℤ later.span.from))

-- claims by zone, then by begin, of which no two of one zone overlap or touch
pub record AreJoined (claims : List Claim) : Type 0 where
  pub ticks : All (λ claim. HasTicks claim.span) claims
  pub apart : AllPairs EndsBefore claims

-- a claim, then who holds it
abbrev pub HeldClaim : Type 0
HeldClaim = Claim × Owner
