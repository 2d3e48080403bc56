-- Errors of calls that give different things.
use Rattle.std.proofs.Common.{◌≡◌, Result, Err, refl}

-- an error is the same whatever stands beside it
pub err_over : {A B E : Type 0} (e f : E) → ◌≡◌ {A = Result A E} (Err e) (Err f) → ◌≡◌ {A = Result B E} (Err e) (Err f)
err_over e f same = let is : e ≡ f = cc in rw is refl
