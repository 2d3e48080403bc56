-- A number of units is the number.
use Rattle.std.proofs.Common.{◌≡◌, ℕ, not, ◌*◌, ◌/◌, ◌%◌, ◌==◌, refl, ap, ◌∙◌, Bool, Option, arith}
use Rattle.std.specs.Prelude.{List}
use Rattle.decimal_quote.specs.Values.{below, numerator, denominator}

once : (n : ℕ) → n * 1 ≡ n
once n = omega arith

pub amount_of_units : (end n d : ℕ) (amount : Option ℕ) → amount ≡ below end (n * 1 / d) → amount ≡ below end (n / d)
amount_of_units end n d amount e = e ∙ ap (λ (m : ℕ). below end (m / d)) (once n)

pub rest_of_units : (n d : ℕ) (rest : Bool) → rest ≡ not (n * 1 % d == 0) → rest ≡ not (n % d == 0)
rest_of_units n d rest e = e ∙ ap (λ (m : ℕ). not (m % d == 0)) (once n)
