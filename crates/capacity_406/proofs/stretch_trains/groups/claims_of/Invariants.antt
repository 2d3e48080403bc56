use Rattle.std.proofs.Common.{◌≡◌, map, take}
use Rattle.rail_types.specs.Occupation.{HeldClaim}
use Rattle.capacity_406.proofs.stretch_trains.groups.claims_of.Given as goal

abbrev pub invariant-loop-one : goal.invariant-loop-one
invariant-loop-one l = l.claims ≡ map (λ (held : HeldClaim). held.0) (take l.one-index l.block)
