-- What a worker may conclude from a place that it took, and how a step is put behind the others.
use Rattle.std.proofs.Common.{◌≡◌, ℕ, zero, suc, ◌+◌, ◌<◌, ◌≤◌, ◌⊎◌, inl, inr, List, [], ◌∷◌, ◌++◌, All, length, sym, refl, ap, subst, ⊎_elim, arith}
use Rattle.std.specs.Prelude.{slice_index_or}
use Rattle.batch_pool.specs.declared.hands.Hand.{Hand}
use Rattle.batch_pool.specs.Hands.{weigh, Took}
use Rattle.batch_pool.specs.Batches.{Leads, places}
use Rattle.batch_pool.proofs.Totals.{weigh-append}

pub weigh_length : (xs : List ℕ) → weigh (λ _. 1) xs ≡ length xs
weigh_length [] = refl
weigh_length (x ∷ xs) = let e = weigh_length xs in omega arith

pub same : ℕ → ℕ → ℕ
same zero zero = 1
same zero (suc b) = 0
same (suc a) zero = 0
same (suc a) (suc b) = same a b

pub same_self : (a : ℕ) → same a a ≡ 1
unfolding same
same_self zero = refl
same_self (suc a) = same_self a

pub same_is : (a b : ℕ) → 0 < same a b → a ≡ b
unfolding same
same_is zero zero h = refl
same_is zero (suc b) h = absurd (omega arith)
same_is (suc a) zero h = absurd (omega arith)
same_is (suc a) (suc b) h = ap suc (same_is a b h)

pub same_most : (a b : ℕ) → same a b ≤ 1
unfolding same
same_most zero zero = omega arith
same_most zero (suc b) = omega arith
same_most (suc a) zero = omega arith
same_most (suc a) (suc b) = same_most a b

pub one_of : (a b : ℕ) → 0 < a + b → (0 < a) ⊎ (0 < b)
one_of zero b h = inr (omega arith)
one_of (suc a) b h = inl (omega arith)

held_below : (n x : ℕ) (put : List ℕ) → All (λ y. y < n) put → 0 < weigh (λ y. same y x) put → x < n
held_below n x [] all h = absurd (omega arith)
held_below n x (y ∷ ys) all h = ⊎_elim (λ (p : 0 < same y x). subst (λ z. z < n) (same_is y x p) (all 0 0 (omega arith)))
    (λ (p : 0 < weigh (λ z. same z x) ys). held_below n x ys (λ k d l. all (suc k) d (omega arith)) p) (one_of (same y x) (weigh (λ z. same z x) ys) h)

pub took_weighs : (v : Hand) (x : ℕ) (w : Hand) → Took v x w → (h : ℕ → ℕ) → weigh h w.taken ≡ weigh h v.taken + h x
took_weighs v x w t h = let e : weigh h w.taken ≡ weigh h (v.taken ++ x ∷ []) = ap (λ (u : Hand). weigh h u.taken) t.0 in
    let a = weigh-append h v.taken (x ∷ []) in omega arith

pub took_below : (n : ℕ) (v : Hand) (x : ℕ) (w : Hand) → All (λ y. y < n) v.put → Took v x w → x < n
took_below n v x w all t = let h : ℕ → ℕ = λ y. same y x in
    let a = took_weighs v x w t h in let s : h x ≡ 1 = same_self x in let m = t.1 h in
    held_below n x v.put all (omega arith)

pub took_counts : (v : Hand) (x : ℕ) (w : Hand) → Took v x w → (length w.taken ≡ length v.taken + 1) × (length v.taken + 1 ≤ length v.put)
took_counts v x w t = let a = took_weighs v x w t (λ _. 1) in let m = t.1 (λ _. 1) in
    let p = weigh_length v.put in let q = weigh_length v.taken in let r = weigh_length w.taken in (omega arith, omega arith)

pub leads_snoc : {W R : Type 0} (gives : W → ℕ → List ℕ → R → W → Type 0) (lines : List (List ℕ)) (first : W) (answers : List (ℕ × R)) (mid : W) (at : ℕ) (reply : R) (last : W)
    → Leads gives lines first answers mid → gives mid at (slice_index_or lines at []) reply last → Leads gives lines first (answers ++ (at, reply) ∷ []) last
leads_snoc gives lines first [] mid at reply last e s = (last, subst (λ u. gives u at (slice_index_or lines at []) reply last) (sym e) s, refl)
leads_snoc gives lines first ((a, r) ∷ rest) mid at reply last l s = (l.0, l.1, leads_snoc gives lines l.0 rest mid at reply last l.2 s)

pub places_weigh : {R : Type 0} (h : ℕ → ℕ) (answers : List (ℕ × R)) (at : ℕ) (reply : R) → weigh h (places (answers ++ (at, reply) ∷ [])) ≡ weigh h (places answers) + h at
places_weigh h [] at reply = omega arith
places_weigh h (x ∷ xs) at reply = let e = places_weigh h xs at reply in omega arith

pub length_snoc : {A : Type 0} (xs : List A) (x : A) → length (xs ++ x ∷ []) ≡ length xs + 1
length_snoc [] x = refl
length_snoc (y ∷ xs) x = let e = length_snoc xs x in omega arith
