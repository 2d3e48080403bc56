-- Inside: the rule of the queue that a batch goes through. What was put in was taken or is
-- there still, each place as often.
use Rattle.std.specs.Prelude.{◌≡◌, ℕ, ◌+◌, ◌<◌, ◌≤◌, List, [], ◌∷◌, ◌++◌}
use mathlib.Core.Option.{some}
use lib.ListN.{get_elem?}
use Rattle.crossbeam_queue.specs.Passes.{Pass, view}
use Rattle.batch_pool.specs.declared.hands.Hand.{Hand}

abbrev pub hand : ℕ → List ℕ → List ℕ → Hand
hand parts put taken = record { parts = parts; put = put; taken = taken }

-- what a pass of a batch's queue knows
abbrev pub knows : Pass ℕ Hand → Hand
knows pass = view pass

-- the weights of the places, added up
abbrev pub weigh : (ℕ → ℕ) → List ℕ → ℕ
weigh h [] = 0
weigh h (x ∷ xs) = h x + weigh h xs

-- a number of each view, added up
abbrev pub total : (Hand → ℕ) → List Hand → ℕ
total f [] = 0
total f (v ∷ vs) = f v + total f vs

-- a pass with a part knows all that was put; one without has taken nothing
abbrev pub Knows : List ℕ → List Hand → Type 0
Knows put views = (port : ℕ) (v : Hand) → get_elem? views port ≡ some v
    → (v.parts ≡ 0 → v.taken ≡ []) × (0 < v.parts → v.put ≡ put)

-- what was put is what was taken and what the queue holds, however the places are weighed
abbrev pub Balanced : List ℕ → List Hand → Type 0
Balanced items views =
    (put : List ℕ) × (total (λ v. v.parts) views ≡ 1024)
    × ((h : ℕ → ℕ) → weigh h put ≡ total (λ v. weigh h v.taken) views + weigh h items)
    × Knows put views

-- the pass took x, and no place more often than it was put
abbrev pub Took : Hand → ℕ → Hand → Type 0
Took v x w = (w ≡ hand v.parts v.put (v.taken ++ x ∷ []))
    × ((h : ℕ → ℕ) → weigh h w.taken ≤ weigh h v.put)

-- what the pass with every part knows of the queue
abbrev pub Settled : Hand → List ℕ → Type 0
Settled v items = v.parts ≡ 1024 → (h : ℕ → ℕ) → weigh h v.put ≡ weigh h v.taken + weigh h items
