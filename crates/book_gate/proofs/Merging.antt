-- Two passes' turns put together are the turns of both, and so are the entries that they added.
use Rattle.std.proofs.Common.{◌≡◌, ℕ, ◌+◌, ◌-◌, nat_lt, false, List, [], ◌∷◌, ◌++◌, IsPermutation, ap, ◌∙◌, subst, arith, append_assoc}
use Rattle.std.proofs.lemmas.Bool.{cond_both}
use Rattle.std.proofs.lemmas.List.{append-nil}
use Rattle.std.proofs.lemmas.List.Sums.{sum_by-append}
use Rattle.std.proofs.lemmas.List.Sorted.{IsPermutation-refl, IsPermutation-sym, IsPermutation-cons, IsPermutation-trans, IsPermutation-middle, IsPermutation-append_left, IsPermutation-append_right, IsPermutation-append_comm, sum_by-IsPermutation}
use Rattle.book_gate.specs.declared.views.Turn.{Turn}
use Rattle.book_gate.specs.declared.views.View.{View}
use Rattle.book_gate.specs.Rule.{one_if, budget, IsWithinShare}
use Rattle.book_gate.specs.Steps.{joining}
use Rattle.book_gate.specs.Views.{positions, own, rises, put, merged}
use Rattle.book_gate.proofs.Turns.{length-merged}

put_permutes : (t : Turn) (ts : List Turn) → IsPermutation (t ∷ ts) (put t ts)
put_permutes t [] = IsPermutation-refl (t ∷ [])
put_permutes t (u ∷ us) = cond_both (nat_lt t.number u.number) (t ∷ u ∷ us) (u ∷ put t us) (λ (l : List Turn). IsPermutation (t ∷ u ∷ us) l)
    (λ _. IsPermutation-refl (t ∷ u ∷ us))
    (λ _. IsPermutation-trans (t ∷ u ∷ us) (u ∷ t ∷ us) (u ∷ put t us)
    (IsPermutation-sym (u ∷ t ∷ us) (t ∷ u ∷ us) (IsPermutation-middle (u ∷ []) t us)) (IsPermutation-cons u (t ∷ us) (put t us) (put_permutes t us)))

pub merged_permutes : (ts us : List Turn) → IsPermutation (ts ++ us) (merged ts us)
merged_permutes ts [] = subst (λ (l : List Turn). IsPermutation (ts ++ []) l) (append-nil ts) (IsPermutation-refl (ts ++ []))
merged_permutes ts (u ∷ us) = IsPermutation-trans (ts ++ u ∷ us) (u ∷ (ts ++ us)) (put u (merged ts us)) (IsPermutation-middle ts u us)
    (IsPermutation-trans (u ∷ (ts ++ us)) (u ∷ merged ts us) (put u (merged ts us)) (IsPermutation-cons u (ts ++ us) (merged ts us) (merged_permutes ts us)) (put_permutes u (merged ts us)))

abbrev new : Turn → List ℕ
new t = positions t.found.entries (t.left.entries - t.found.entries)

-- the first of three lists goes behind the second
swapped : (a b c : List ℕ) → IsPermutation (a ++ (b ++ c)) (b ++ (a ++ c))
swapped a b c = subst (λ (l : List ℕ). IsPermutation l (b ++ (a ++ c))) (append_assoc a b c)
    (subst (λ (l : List ℕ). IsPermutation ((a ++ b) ++ c) l) (append_assoc b a c) (IsPermutation-append_left c (a ++ b) (b ++ a) (IsPermutation-append_comm a b)))

own_put : (t : Turn) (ts : List Turn) → IsPermutation (new t ++ own ts) (own (put t ts))
own_put t [] = IsPermutation-refl (new t ++ [])
own_put t (u ∷ us) = cond_both (nat_lt t.number u.number) (t ∷ u ∷ us) (u ∷ put t us) (λ (l : List Turn). IsPermutation (new t ++ (new u ++ own us)) (own l))
    (λ _. IsPermutation-refl (new t ++ (new u ++ own us)))
    (λ _. IsPermutation-trans (new t ++ (new u ++ own us)) (new u ++ (new t ++ own us)) (new u ++ own (put t us))
    (swapped (new t) (new u) (own us)) (IsPermutation-append_right (new u) (new t ++ own us) (own (put t us)) (own_put t us)))

pub own_merged : (ts us : List Turn) → IsPermutation (own ts ++ own us) (own (merged ts us))
own_merged ts [] = subst (λ (l : List ℕ). IsPermutation (own ts ++ []) l) (append-nil (own ts)) (IsPermutation-refl (own ts ++ []))
own_merged ts (u ∷ us) = IsPermutation-trans (own ts ++ (new u ++ own us)) (new u ++ (own ts ++ own us)) (own (put u (merged ts us)))
    (swapped (own ts) (new u) (own us))
    (IsPermutation-trans (new u ++ (own ts ++ own us)) (new u ++ own (merged ts us)) (own (put u (merged ts us)))
    (IsPermutation-append_right (new u) (own ts ++ own us) (own (merged ts us)) (own_merged ts us)) (own_put u (merged ts us)))

pub rises_merged : (ts us : List Turn) → rises (merged ts us) ≡ rises ts + rises us
rises_merged ts us = sum_by-IsPermutation (λ (t : Turn). t.left.count - t.found.count) (ts ++ us) (merged ts us) (merged_permutes ts us) ∙ sum_by-append (λ (t : Turn). t.left.count - t.found.count) ts us

module _ {E F : Type 0} where
  pub within_joined : (v w : View E F) → IsWithinShare v → IsWithinShare w → IsWithinShare (joining v w)
  within_joined v w h k = let both = length-merged v.turns w.turns in omega arith

  pub budget_joined : (v w : View E F) → IsWithinShare v → IsWithinShare w → w.has_ticket ≡ false → budget (joining v w) ≡ budget v + budget w
  budget_joined v w h k idle = let both = length-merged v.turns w.turns in let no_ticket : one_if w.has_ticket ≡ 0 = ap one_if idle in omega arith

-- what is merged has the turns, the own entries and the rises of both
pub ruleset joined = (merged_permutes, own_merged, rises_merged)
