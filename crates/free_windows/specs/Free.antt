-- When claims are free against those that are held.
use Rattle.std.specs.Prelude.{ℤ, ◌+ℤ◌, ◌≤ℤ◌, List, All}
use Rattle.rail_types.specs.declared.paths.Claim.{Claim}
use Rattle.rail_types.specs.declared.paths.Window.{Window}
use Rattle.rail_types.specs.Occupation.{HeldClaim}
use Rattle.occupation_book.specs.Held.{IsFree}

-- a claim, so many ticks later
abbrev pub moved : ℤ → Claim → Claim
moved tick claim = record {
  zone = claim.zone;
  span = record { from = tick +ℤ claim.span.from; to = tick +ℤ claim.span.to };
}

-- the held claims leave the claim free when it is moved to a tick
abbrev pub IsFreeOf : List HeldClaim → Claim → ℤ → Type 0
IsFreeOf kept piece tick = IsFree kept (moved tick piece)

-- the claims at tick 0 are free when they are moved to a tick
abbrev pub Fits : List HeldClaim → List Claim → ℤ → Type 0
Fits kept pieces tick = All (λ piece. IsFree kept (moved tick piece)) pieces

-- a tick of a window, which has both its ends
abbrev pub Holds : Window → ℤ → Type 0
Holds window tick = (window.from ≤ℤ tick) × (tick ≤ℤ window.to)
