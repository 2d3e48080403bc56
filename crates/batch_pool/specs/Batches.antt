-- What comes of a batch: each place to do was answered by one worker, once, and each
-- worker went from line to line.
use Rattle.std.specs.Prelude.{◌≡◌, ℕ, ◌+◌, ◌≤◌, List, [], ◌∷◌, flat_map, length, map}
use Rattle.std.specs.Prelude.{slice_index_or}
use Rattle.batch_pool.specs.declared.workers.Served.{Served}

-- ---- one worker

-- the answers lead from one worker to the other: each is one that the worker
-- gives to the line at its place
abbrev pub Leads : {W R : Type 0} → (W → ℕ → List ℕ → R → W → Type 0) → List (List ℕ)
    → W → List (ℕ × R) → W → Type 0
Leads gives lines before [] after = before ≡ after
Leads gives lines before ((at, reply) ∷ rest) after = (next : _)
    × gives before at (slice_index_or lines at []) reply next
    × Leads gives lines next rest after

-- this worker comes back so: it went from line to line, each of which was one of those
-- that it might still be asked
pub record IsServed {W R : Type 0} (gives : W → ℕ → List ℕ → R → W → Type 0) (left : W → ℕ)
    (lines : List (List ℕ)) (worker : W) (served : Served W R) : Type 0 where
  pub leads : Leads gives lines worker served.answers served.worker
  pub asked : left worker ≤ left served.worker + length served.answers

-- two lists are as long, and stand so to one another place by place
abbrev pub AreMatched : {X Y : Type 0} → (X → Y → Type 0) → List X → List Y → Type 0
AreMatched R [] [] = Unit {0}
AreMatched R [] (y ∷ ys) = ⊥
AreMatched R (x ∷ xs) [] = ⊥
AreMatched R (x ∷ xs) (y ∷ ys) = R x y × AreMatched R xs ys

-- ---- all workers

-- the places that were answered, in the order in which they were
abbrev pub places : {R : Type 0} → List (ℕ × R) → List ℕ
places answers = map (λ a. a.0) answers

-- the places that all workers answered, worker by worker
abbrev pub all_places : {W R : Type 0} → List (Served W R) → List ℕ
all_places all = flat_map (λ s. places s.answers) all
