-- Inside: ticks that are held as spans in order.
use Rattle.std.specs.Prelude.{ℤ, neg_ℤ, ◌<ℤ◌, ◌≤ℤ◌, List, All, AllPairs}
use Rattle.rail_types.specs.declared.limits.TheConstants.{FAR_TICK}
use Rattle.rail_types.specs.declared.paths.Span.{Span}
use Rattle.rail_types.specs.declared.paths.Claim.{Claim}
use Rattle.rail_types.specs.declared.paths.Window.{Window}
use Rattle.rail_types.specs.Limits.{IsNearSpan}
use Rattle.rail_types.specs.Occupation.{HasTicks, Overlap}
use Rattle.free_windows.specs.Free.{moved}

-- no span overlaps the claim's when it is moved to a tick
abbrev pub IsFreeOf : List Span → Claim → ℤ → Type 0
IsFreeOf spans piece tick = All (λ one. ¬ Overlap one (moved tick piece).span) spans

-- the ticks of a window are near, and so is the one behind it
abbrev pub IsNearBelow : Window → Type 0
IsNearBelow window = (neg_ℤ FAR_TICK ≤ℤ window.from) × (window.to <ℤ FAR_TICK)

-- spans in order: each ends by the tick at which any behind it begins
pub record IsZone (kept : List Span) : Type 0 where
  pub near : All (λ one. IsNearSpan one) kept
  pub ticks : All HasTicks kept
  pub sorted : AllPairs (λ one later. one.to ≤ℤ later.from) kept
