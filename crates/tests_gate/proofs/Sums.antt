-- A sum of equal numbers.
use Rattle.std.proofs.Common.{◌≡◌, ℕ, ◌*◌, List, [], ◌∷◌, All, length, sum_by, arith}
use Rattle.std.proofs.lemmas.List.Elements.{All-head, All-tail}
use Rattle.std.proofs.lemmas.List.Sums.{sum_by-cons}

pub sum_by-same : {X : Type 0} (f : X → ℕ) (n : ℕ) (xs : List X) → All (λ x. f x ≡ n) xs → sum_by f xs ≡ length xs * n
sum_by-same f n [] h = omega arith
sum_by-same f n (x ∷ xs) h = let one = All-head (λ y. f y ≡ n) x xs h in let rest = sum_by-same f n xs (All-tail (λ y. f y ≡ n) x xs h) in omega (arith, sum_by-cons f x xs)
