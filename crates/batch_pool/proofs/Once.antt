-- Lists of the same weights have the same elements.
use Rattle.std.proofs.Common.{◌≡◌, ◌≢◌, ℕ, zero, suc, ◌+◌, ◌<◌, ◌≤◌, IsPermutation, List, [], ◌∷◌, flat_map, get_or, length, sum_by, sym, refl, ap, ◌∙◌, subst, ⊎_elim, arith}
use Rattle.std.specs.Prelude.{slice_get}
use Rattle.std.specs.List.{range_with_len, remove}
use Rattle.std.proofs.lemmas.List.Sorted.{IsPermutation-cons, IsPermutation-refl, IsPermutation-remove, IsPermutation-sym, IsPermutation-trans, sum_by-IsPermutation}
use Rattle.std.proofs.lemmas.List.Sums.{sum_by-cons}
use Rattle.std.proofs.lemmas.Option.{slice_get-get_or}
use Rattle.batch_pool.specs.Batches.{all_places, places}
use Rattle.batch_pool.specs.Hands.{weigh}
use Rattle.batch_pool.specs.Shifts.{weigh_all}
use Rattle.batch_pool.specs.declared.workers.Served.{Served}
use Rattle.batch_pool.proofs.Steps.{same, same_self, same_is, same_most, one_of}
use Rattle.batch_pool.proofs.Totals.{weigh-append}

stands : (x : ℕ) (xs : List ℕ) → 0 < weigh (λ y. same y x) xs → (i : ℕ) × (i < length xs) × (x ≡ get_or xs i x)
stands x [] h = absurd (omega arith)
stands x (y ∷ ys) h = ⊎_elim (λ (p : 0 < same y x). (0, omega arith, sym (same_is y x p)))
    (λ (p : 0 < weigh (λ z. same z x) ys). let r = stands x ys p in (suc r.0, omega (arith, r.1), r.2)) (one_of (same y x) (weigh (λ z. same z x) ys) h)

-- ---- the same elements, the same weights

weigh_sum : (h : ℕ → ℕ) (xs : List ℕ) → weigh h xs ≡ sum_by h xs
weigh_sum h [] = refl
weigh_sum h (x ∷ xs) = let e = weigh_sum h xs in let s = sum_by-cons h x xs in omega arith

weigh_same : (h : ℕ → ℕ) (xs ys : List ℕ) → IsPermutation xs ys → weigh h xs ≡ weigh h ys
weigh_same h xs ys p = weigh_sum h xs ∙ (sym (sum_by-IsPermutation h xs ys p) ∙ sym (weigh_sum h ys))

same_elements : (xs ys : List ℕ) → ((h : ℕ → ℕ) → weigh h xs ≡ weigh h ys) → IsPermutation xs ys
same_elements [] [] even = IsPermutation-refl []
same_elements [] (y ∷ ys) even = let e = even (λ _. 1) in absurd (omega arith)
same_elements (x ∷ xs) ys even =
    let s : same x x ≡ 1 = same_self x in let e = even (λ y. same y x) in
    let at = stands x ys (omega arith) in
    let left : List ℕ = remove ys at.0 in
    let moved : IsPermutation ys (x ∷ left) = IsPermutation-remove ys at.0 x at.1 at.2 in
    let rest = same_elements xs left (λ h. let a = even h in let b = weigh_same h ys (x ∷ left) moved in omega arith) in
    IsPermutation-trans (x ∷ xs) (x ∷ left) ys (IsPermutation-cons x xs left rest) (IsPermutation-sym ys (x ∷ left) moved)

-- ---- all workers

weigh_all_places : {W R : Type 0} (h : ℕ → ℕ) (all : List (Served W R)) → weigh_all h all ≡ weigh h (all_places all)
weigh_all_places h [] = refl
weigh_all_places h (s ∷ rest) = let e = weigh_all_places h rest in let a = weigh-append h (places s.answers) (all_places rest) in omega arith

pub answered_once : {W R : Type 0} (todo : List ℕ) (all : List (Served W R))
    → ((h : ℕ → ℕ) → weigh h todo ≡ weigh_all h all) → IsPermutation (all_places all) todo
answered_once todo all even = same_elements (all_places all) todo (λ h. sym (weigh_all_places h all) ∙ sym (even h))
