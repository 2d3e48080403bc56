-- Places that were answered, added up worker by worker.
use Rattle.std.proofs.Common.{◌≡◌, ℕ, suc, ◌+◌, List, [], ◌∷◌, ◌++◌, All, refl, ap, arith}
use Rattle.batch_pool.specs.Batches.{places}
use Rattle.batch_pool.specs.Hands.{weigh}
use Rattle.batch_pool.specs.Shifts.{weigh_all}
use Rattle.batch_pool.specs.declared.workers.Served.{Served}

module _ {W R : Type 0} where
  pub weigh_all_snoc : (h : ℕ → ℕ) (all : List (Served W R)) (one : Served W R) → weigh_all h (all ++ one ∷ []) ≡ weigh_all h all + weigh h (places one.answers)
  weigh_all_snoc h [] one = omega arith
  weigh_all_snoc h (s ∷ all) one = let e = weigh_all_snoc h all one in omega arith

  pub weigh_all_none : (h : ℕ → ℕ) (all : List (Served W R)) → All (λ s. s.answers ≡ []) all → weigh_all h all ≡ 0
  weigh_all_none h [] idle = refl
  weigh_all_none h (s ∷ all) idle =
      let e = weigh_all_none h all (λ k d l. idle (suc k) d (omega arith)) in
      let z : weigh h (places s.answers) ≡ 0 = ap (λ l. weigh h (places l)) (idle 0 s (omega arith)) in omega arith
