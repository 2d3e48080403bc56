-- The places at which a walk is cut, and lists that grow with them.
use Rattle.std.proofs.Common.{◌≡◌, ℕ, zero, suc, ◌+◌, ◌-◌, ◌<◌, ◌≤◌, Bool, true, List, [], ◌∷◌, ◌++◌, length, Option, slice_index_or, slice_index, sym, refl, arith}
use native.Mathlib.Decide.{ℕ_discrete}
use Rattle.std.specs.List.{All, filter, range_with_len}
use Rattle.std.specs.List.Sorted.{IsStrictlyIncreasing}
use Rattle.std.proofs.lemmas.List.{get_or_push, get_or_append_left}
use Rattle.std.proofs.lemmas.List.Elements.{All-filter, All-nil, All-cons}
use Rattle.std.proofs.lemmas.List.FromFn.{get_or-range_with_len, length-range_with_len}
use Rattle.std.proofs.lemmas.List.Kept.{IsStrictlyIncreasing-filter}
use Rattle.signal_blocks.specs.Cuts.{is_cut, cut_places}
use Rattle.route_walk.specs.declared.walks.Passed.{Passed}

last_of_pushed : {X : Type 0} (P : ℕ → X → Type 0) (xs : List X) (x : X) (k j : ℕ) (d : X) → k ≡ length xs → j ≡ k → P j x → P k (slice_index_or (xs ++ x ∷ []) k d)
last_of_pushed P xs x k j d here same holds = rw (get_or_push xs x d k (sym here)) (rw (← same) holds)

-- what holds of each element and of the one behind them holds of each of all
pub each_pushed : {X : Type 0} (P : ℕ → X → Type 0) (xs : List X) (x : X) (n : ℕ) → length xs + 1 ≡ n → ((k : ℕ) (d : X) → k + 1 < n → P k (slice_index_or xs k d)) → P (n - 1) x → (k : ℕ) (d : X) → k + 1 < n + 1 → P k (slice_index_or (xs ++ x ∷ []) k d)
each_pushed P xs x n many each last k d lt = elim (ℕ_discrete k (length xs)) [
  | yes here ↦ last_of_pushed P xs x k (n - 1) d here (omega (arith, many, here)) last
  | no before ↦ rw (get_or_append_left xs (x ∷ []) d k (omega (arith, many, lt, before))) (each k d (omega (arith, many, lt, before)))
]

range_rises : (a n : ℕ) → IsStrictlyIncreasing (range_with_len a n)
range_rises a n k lt =
    let long = length-range_with_len a n in
    omega (arith, get_or-range_with_len a n k 0 (omega (arith, lt, long)), get_or-range_with_len a n (k + 1) 0 (omega (arith, lt, long)))

range_below : (a n m : ℕ) → a + n ≤ m → All (λ k. k < m) (range_with_len a n)
range_below a zero m le = All-nil (λ k. k < m)
range_below a (suc n) m le =
    let here : a < m = omega (arith, le) in
    All-cons (λ k. k < m) a (range_with_len (a + 1) n) here (range_below (a + 1) n m (omega (arith, le)))

pub cuts_rise : (sights : List (Option ℕ)) (passed : List Passed) → IsStrictlyIncreasing (cut_places sights passed)
cuts_rise sights passed = IsStrictlyIncreasing-filter (is_cut sights passed) _ (range_rises 0 (length passed))

pub cuts_within : (sights : List (Option ℕ)) (passed : List Passed) → All (λ cut. cut < length passed) (cut_places sights passed)
cuts_within sights passed = All-filter (is_cut sights passed) (λ cut. cut < length passed) _ (range_below 0 (length passed) (length passed) (omega arith))

begun : (p : ℕ → Bool) (n : ℕ) → p 0 ≡ true → 0 < n → 0 < length (filter p (range_with_len 0 n))
begun p zero first lt = absurd (omega (arith, lt))
begun p (suc n) first lt = rw first (omega arith)

pub some_cut : (sights : List (Option ℕ)) (passed : List Passed) → 0 < length passed → 0 < length (cut_places sights passed)
some_cut sights passed lt = begun (is_cut sights passed) (length passed) refl lt

pub cut_inside : (sights : List (Option ℕ)) (passed : List Passed) (k : ℕ) → k < length (cut_places sights passed) → slice_index (cut_places sights passed) k < length passed
cut_inside sights passed k lt = cuts_within sights passed k 0 lt
