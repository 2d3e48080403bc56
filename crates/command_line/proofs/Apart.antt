-- A list of which each element stands in a relation to each later one, by its first element.
use Rattle.std.proofs.Common.{suc, List, ◌∷◌, arith}
use Rattle.std.specs.List.{All, AllPairs}

pub pairs_head : {X : Type 0} (R : X → X → Type 0) (x : X) (xs : List X) → AllPairs R (x ∷ xs) → All (R x) xs
pairs_head R x xs all k d within = all 0 (suc k) d (omega arith) (omega arith)

pub pairs_tail : {X : Type 0} (R : X → X → Type 0) (x : X) (xs : List X) → AllPairs R (x ∷ xs) → AllPairs R xs
pairs_tail R x xs all i j d before within = all (suc i) (suc j) d (omega arith) (omega arith)
