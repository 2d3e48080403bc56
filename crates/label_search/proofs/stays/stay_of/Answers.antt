use Rattle.std.proofs.Common.{◌≡◌, ◌/◌, ◌%◌, ℕ, sym, subst}
use Rattle.std.proofs.Math.Nat.{div-one, mod-one}
use Rattle.label_search.proofs.stays.stay_of.Goals as goal

pub returns-then-levels-eq1-clause-spot : goal.returns-then-levels-eq1-clause-spot
returns-then-levels-eq1-clause-spot c =
    subst (λ (levels : ℕ). c.args.number ≡ c.args.number / levels) (sym c.if-levels-eq1.true) (sym (div-one c.args.number))

pub returns-then-levels-eq1-clause-made : goal.returns-then-levels-eq1-clause-made
returns-then-levels-eq1-clause-made c =
    subst (λ (levels : ℕ). 0 ≡ c.args.number % levels) (sym c.if-levels-eq1.true) (sym (mod-one c.args.number))
