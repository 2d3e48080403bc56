-- Lists that stand to one another place by place.
use Rattle.std.proofs.Common.{◌≡◌, ℕ, suc, ◌<◌, List, [], ◌∷◌, ◌++◌, length, map, arith}
use Rattle.std.specs.Prelude.{slice_index_or}
use Rattle.batch_pool.specs.Batches.{AreMatched}

module _ {X Y : Type 0} (R : X → Y → Type 0) where
  pub matched_each : {A : Type 0} (f : A → X) (g : A → Y) (olds news : List A) → length news ≡ length olds
      → ((k : ℕ) (d : A) → k < length olds → R (f (slice_index_or olds k d)) (g (slice_index_or news k d))) → AreMatched R (map f olds) (map g news)
  matched_each f g [] [] long each = tt
  matched_each f g [] (y ∷ ys) long each = absurd (omega arith)
  matched_each f g (x ∷ xs) [] long each = absurd (omega arith)
  matched_each f g (x ∷ xs) (y ∷ ys) long each = (each 0 x (omega arith), matched_each f g xs ys (omega arith) (λ k d l. each (suc k) d (omega arith)))

  -- the last one went on
  pub matched_last : (xs : List X) (ys : List Y) (y z : Y) → AreMatched R xs (ys ++ y ∷ []) → ((x : X) → R x y → R x z) → AreMatched R xs (ys ++ z ∷ [])
  matched_last [] [] y z all goes = absurd all
  matched_last [] (b ∷ ys) y z all goes = absurd all
  matched_last (x ∷ xs) [] y z all goes = (goes x all.0, all.1)
  matched_last (x ∷ xs) (b ∷ ys) y z all goes = (all.0, matched_last xs ys y z all.1 goes)

  -- each by itself
  pub matched_self : (f : Y → X) (ys : List Y) → ((k : ℕ) (d : Y) → k < length ys → R (f (slice_index_or ys k d)) (slice_index_or ys k d)) → AreMatched R (map f ys) ys
  matched_self f [] each = tt
  matched_self f (y ∷ ys) each = (each 0 y (omega arith), matched_self f ys (λ k d l. each (suc k) d (omega arith)))
