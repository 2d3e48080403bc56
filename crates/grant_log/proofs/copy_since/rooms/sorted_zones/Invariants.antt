use Rattle.std.proofs.Common.{◌≡◌, map, take}
use Rattle.rail_types.specs.Occupation.{HeldClaim}
use Rattle.grant_log.proofs.copy_since.rooms.sorted_zones.Given as goal

abbrev pub invariant-loop-one : goal.invariant-loop-one
invariant-loop-one l = l.zones.items ≡ map (λ (one : HeldClaim). one.0.zone) (take l.one-index l.claims)
