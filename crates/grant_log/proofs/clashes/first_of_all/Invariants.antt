use Rattle.std.proofs.Common.{◌≡◌, drop, find, not}
use Rattle.std.specs.List.{list_all}
use Rattle.rail_types.specs.FirstClash.{is_before}
use Rattle.rail_types.specs.Occupation.{HeldClaim}
use Rattle.grant_log.proofs.clashes.first_of_all.Given as goal

abbrev pub invariant-loop-one : goal.invariant-loop-one
invariant-loop-one l =
    find (λ (one : HeldClaim). list_all (λ (other : HeldClaim). not (is_before other.0 one.0)) l.all) (drop l.one-index l.all)
    ≡ find (λ (one : HeldClaim). list_all (λ (other : HeldClaim). not (is_before other.0 one.0)) l.all) l.all
