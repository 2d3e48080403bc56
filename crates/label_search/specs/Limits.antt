-- What a search may leave out.
use Rattle.std.specs.Prelude.{ℕ, ◌<◌, ℤ, pos, ◌+ℤ◌, ◌-ℤ◌, ◌<ℤ◌, ◌≤ℤ◌, List, length, unwrap_or}
use Rattle.std.specs.Prelude.{slice_get, All, if◌then◌else◌}
use Rattle.rail_types.specs.declared.limits.TheConstants.{FAR_TICK}
use Rattle.label_search.specs.declared.plans.Target.{Target}
use Rattle.label_search.specs.declared.plans.Target.TheVariants.{Place as To, End}
use Rattle.label_search.specs.declared.plans.Place.{Place}
use Rattle.label_search.specs.declared.plans.Move.{Move}
use Rattle.label_search.specs.declared.plans.Plan.{Plan}
use Rattle.label_search.specs.declared.limits.Ahead.{Ahead}
use Rattle.label_search.specs.declared.limits.Limits.{Limits}
use Rattle.rail_types.specs.Limits.{IsNear}
use Rattle.label_search.specs.Paths.{place_at, move_at}

-- what is ahead of a place, by the list
abbrev pub ahead_at : List Ahead → ℕ → Ahead
ahead_at ahead place = unwrap_or (slice_get ahead place) (record { ticks = pos 0 })

abbrev pub ahead_to : List Ahead → Target → Ahead
ahead_to ahead (To place) = ahead_at ahead place
ahead_to ahead End = record { ticks = pos 0 }

abbrev pub ahead_of : List Ahead → Target → ℤ
ahead_of ahead target = (ahead_to ahead target).ticks

-- what reaches the target at that tick may end below the limit
abbrev pub IsBelow : Limits → Target → ℤ → Type 0
IsBelow limits target leave = (leave +ℤ ahead_of limits.ahead target) <ℤ limits.below

-- the last tick at which a move may be entered that ends below the limit
abbrev pub last_enter : Limits → Move → ℤ
last_enter limits move = ((limits.below -ℤ pos 1) -ℤ move.run) -ℤ ahead_of limits.ahead move.target

abbrev pub IsAhead : Ahead → Type 0
IsAhead ahead = (pos 0 ≤ℤ ahead.ticks) × (ahead.ticks ≤ℤ FAR_TICK)

pub record IsLimits (limits : Limits) : Type 0 where
  pub ahead : All IsAhead limits.ahead
  pub below : IsNear limits.below

-- whatever leaves by the horizon may end below the limit
abbrev pub IsUnlimited : Plan → Limits → Type 0
IsUnlimited plan limits = (target : Target) (leave : ℤ) → leave ≤ℤ plan.horizon
    → IsBelow limits target leave

-- a train that stands at the place waits so long at least
abbrev pub least_wait : Place → ℤ
least_wait place = if place.standing then place.dwell else pos 0

-- a move brings an end no nearer than by the ticks that it takes with the wait before it
abbrev pub IsBound : Plan → List Ahead → ℕ → ℕ → Type 0
IsBound plan ahead place number = (ahead_at ahead place).ticks ≤ℤ ((least_wait (place_at plan
    place) +ℤ (move_at plan place number).run) +ℤ ahead_of ahead (move_at plan place number).target)

abbrev pub IsConsistent : Plan → List Ahead → Type 0
IsConsistent plan ahead = (place number : ℕ) → number < length (place_at plan place).moves
    → IsBound plan ahead place number
