-- The ticks at which claims are free, as windows.
use Rattle.std.specs.Prelude.{◌≡◌, ◌⊎◌, ℕ, ◌<◌, ℤ, pos, neg_ℤ, ◌+ℤ◌, ◌<ℤ◌, ◌≤ℤ◌, ◌↔◌, List, All}
use Rattle.std.specs.Prelude.{AllPairs, Any, Bool, false, IsTrue}
use Rattle.rail_types.specs.declared.paths.Claim.{Claim}
use Rattle.rail_types.specs.declared.paths.Window.{Window}
use Rattle.rail_types.specs.Occupation.{HasTicks}
use Rattle.rail_types.specs.declared.limits.TheConstants.{FAR_TICK}
use Rattle.rail_types.specs.Limits.{IsNearSpan}
use Rattle.free_windows.specs.Free.{Holds}

-- the ticks of a window are near
abbrev pub IsNearWindow : Window → Type 0
IsNearWindow window = (neg_ℤ FAR_TICK ≤ℤ window.from) × (window.to ≤ℤ FAR_TICK)

-- a claim on one of so many zones
pub record IsPiece (zones : ℕ) (piece : Claim) : Type 0 where
  pub zone : piece.zone < zones
  pub near : IsNearSpan piece.span
  pub ticks : HasTicks piece.span

-- windows that hold exactly those ticks of one that are so, ascending, with a tick between any two
pub record AreWindowsOf (IsSo : ℤ → Type 0) (within : Window) (windows : List Window) : Type 0 where
  pub exact : (tick : ℤ)
      → Any (λ window. Holds window tick) windows ↔ (Holds within tick × IsSo tick)
  pub ticks : All (λ window. window.from ≤ℤ window.to) windows
  pub apart : AllPairs (λ one later. (one.to +ℤ pos 1) <ℤ later.from) windows

-- the first ticks of a window that are so, as many as follow one another
pub record IsNextWindow (IsSo : ℤ → Type 0) (within : Window) (window : Window) : Type 0 where
  pub from : within.from ≤ℤ window.from
  pub ticks : window.from ≤ℤ window.to
  pub to : window.to ≤ℤ within.to
  pub before : (tick : ℤ) → within.from ≤ℤ tick → tick <ℤ window.from → ¬ IsSo tick
  pub so : (tick : ℤ) → Holds window tick → IsSo tick
  pub ends : (window.to ≡ within.to) ⊎ (¬ IsSo (window.to +ℤ pos 1))

-- the first ticks of a window are all so, and the next is not, or they are all not so
pub record IsStretch (IsSo : ℤ → Type 0) (within : Window) (free : Bool)
    (ticks : Window) : Type 0 where
  pub from : ticks.from ≡ within.from
  pub some : ticks.from ≤ℤ ticks.to
  pub to : ticks.to ≤ℤ within.to
  pub when_free : IsTrue free → (tick : ℤ) → Holds ticks tick → IsSo tick
  pub ends : IsTrue free → (ticks.to ≡ within.to) ⊎ (¬ IsSo (ticks.to +ℤ pos 1))
  pub when_blocked : free ≡ false → (tick : ℤ) → Holds ticks tick → ¬ IsSo tick
