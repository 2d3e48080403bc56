-- A loop over a count: what was read so far, before what is left to read.
use Rattle.std.proofs.Common.{◌≡◌, ℕ, suc, ◌+◌, ◌-◌, ◌<◌, ◌≤◌, List, [], ◌∷◌, ◌++◌, Result, Ok, Err, refl, sym, ap, ◌∙◌, append_assoc, arith}
use Rattle.std.proofs.lemmas.List.{append-nil}
use Rattle.byte_fields.specs.Unread.{Unread}
use Rattle.rail_types.specs.declared.paths.Claim.{Claim}
use Rattle.entry_codec.specs.Reading.{Reading, go_on, done, after, items_field, next_claim_field, claims_field}

abbrev pub with_front : {A : Type 0} → List A → Result (List A × Unread) ℕ → Result (List A × Unread) ℕ
with_front front read = go_on read (λ others. done (front ++ others))

regroup : {A : Type 0} (front : List A) (x : A) (read : Result (List A × Unread) ℕ) → with_front front (go_on read (λ others. done (x ∷ others))) ≡ with_front (front ++ x ∷ []) read
regroup front x (Ok found) = ap (λ items. Ok (items, found.1)) (sym (append_assoc front (x ∷ []) found.0))
regroup front x (Err at) = refl

pub goes_on : {A : Type 0} (item : Reading A) (front : List A) (count i : ℕ) (old new : Unread) (x : A) (total : Result (List A × Unread) ℕ) → i < count → item old ≡ Ok (x, new)
    → with_front front (items_field item (count - i) old) ≡ total → with_front (front ++ x ∷ []) (items_field item (count - (i + 1)) new) ≡ total
unfolding items_field
goes_on item front count i old new x total lt h so_far =
    let k : count - i ≡ suc (count - (i + 1)) = omega arith in
    let one : with_front front (items_field item (count - i) old) ≡ with_front (front ++ x ∷ []) (items_field item (count - (i + 1)) new) = rw (k, h) (regroup front x (items_field item (count - (i + 1)) new)) in
    sym one ∙ so_far

pub ends : {A : Type 0} (item : Reading A) (at : ℕ) (front : List A) (count i : ℕ) (old : Unread) (total : Result (List A × Unread) ℕ) → i < count → item old ≡ Err at
    → with_front front (items_field item (count - i) old) ≡ total → total ≡ Err at
unfolding items_field
ends item at front count i old total lt h so_far =
    let k : count - i ≡ suc (count - (i + 1)) = omega arith in
    let one : with_front front (items_field item (count - i) old) ≡ Err at = rw (k, h) refl in
    sym so_far ∙ one

pub is_done : {A : Type 0} (item : Reading A) (front : List A) (count i : ℕ) (old : Unread) (total : Result (List A × Unread) ℕ) → count ≤ i → with_front front (items_field item (count - i) old) ≡ total → total ≡ Ok (front, old)
unfolding items_field
is_done item front count i old total le so_far =
    let k : count - i ≡ 0 = omega arith in
    let one : with_front front (items_field item (count - i) old) ≡ Ok (front, old) = rw k (ap (λ items. Ok (items, old)) (append-nil front)) in
    sym so_far ∙ one

-- ---- the same for claims, each of which is read behind the one before

pub claim_goes_on : (before : Claim) (front : List Claim) (count i : ℕ) (old new : Unread) (x : Claim) (total : Result (List Claim × Unread) ℕ) → i < count → next_claim_field before old ≡ Ok (x, new)
    → with_front front (claims_field (count - i) before old) ≡ total → with_front (front ++ x ∷ []) (claims_field (count - (i + 1)) x new) ≡ total
unfolding claims_field
claim_goes_on before front count i old new x total lt h so_far =
    let k : count - i ≡ suc (count - (i + 1)) = omega arith in
    let one : with_front front (claims_field (count - i) before old) ≡ with_front (front ++ x ∷ []) (claims_field (count - (i + 1)) x new) = rw (k, h) (regroup front x (claims_field (count - (i + 1)) x new)) in
    sym one ∙ so_far

pub claim_ends : (before : Claim) (at : ℕ) (front : List Claim) (count i : ℕ) (old : Unread) (total : Result (List Claim × Unread) ℕ) → i < count → next_claim_field before old ≡ Err at
    → with_front front (claims_field (count - i) before old) ≡ total → total ≡ Err at
unfolding claims_field
claim_ends before at front count i old total lt h so_far =
    let k : count - i ≡ suc (count - (i + 1)) = omega arith in
    let one : with_front front (claims_field (count - i) before old) ≡ Err at = rw (k, h) refl in
    sym so_far ∙ one

pub claims_done : (before : Claim) (front : List Claim) (count i : ℕ) (old : Unread) (total : Result (List Claim × Unread) ℕ) → count ≤ i → with_front front (claims_field (count - i) before old) ≡ total → total ≡ Ok (front, old)
unfolding claims_field
claims_done before front count i old total le so_far =
    let k : count - i ≡ 0 = omega arith in
    let one : with_front front (claims_field (count - i) before old) ≡ Ok (front, old) = rw k (ap (λ items. Ok (items, old)) (append-nil front)) in
    sym so_far ∙ one

-- ---- passed over

-- what is made of a value changes nothing of what is left behind it
pub after_last : {A B : Type 0} (read : Result (A × Unread) ℕ) (make : A → B) → after (go_on read (λ value. done (make value))) ≡ after read
after_last (Ok found) make = refl
after_last (Err at) make = refl

abbrev left_is : Unread → Result Unread ℕ
left_is u = Ok u

ok_left : (u v : Unread) → left_is u ≡ left_is v → u ≡ v
ok_left u v e = cc

abbrev wrong_is : ℕ → Result Unread ℕ
wrong_is at = Err at

err_at : (a b : ℕ) → wrong_is a ≡ wrong_is b → a ≡ b
err_at a b e = cc

pub after_ok : {A : Type 0} (read : Result (A × Unread) ℕ) (left : Unread) → after read ≡ Ok left → (x : A) × (read ≡ Ok (x, left))
after_ok (Ok found) left e = (found.0, ap (λ (u : Unread). Ok (found.0, u)) (ok_left found.1 left e))
after_ok (Err at) left e = absurd cc

pub after_err : {A : Type 0} (read : Result (A × Unread) ℕ) (at : ℕ) → after read ≡ Err at → read ≡ Err at
after_err (Ok found) at e = absurd cc
after_err (Err other) at e = ap (λ (n : ℕ). Err n) (err_at other at e)

pub pass_on : {A : Type 0} (item : Reading A) (count i : ℕ) (old new : Unread) (x : A) (total : Result Unread ℕ) → i < count → item old ≡ Ok (x, new)
    → after (items_field item (count - i) old) ≡ total → after (items_field item (count - (i + 1)) new) ≡ total
unfolding items_field
pass_on item count i old new x total lt h so_far =
    let k : count - i ≡ suc (count - (i + 1)) = omega arith in
    let one : after (items_field item (count - i) old) ≡ after (items_field item (count - (i + 1)) new) = rw (k, h) (after_last (items_field item (count - (i + 1)) new) (λ others. x ∷ others)) in
    sym one ∙ so_far

pub pass_stops_at : {A : Type 0} (item : Reading A) (at : ℕ) (count i : ℕ) (old : Unread) (total : Result Unread ℕ) → i < count → item old ≡ Err at → after (items_field item (count - i) old) ≡ total → total ≡ Err at
unfolding items_field
pass_stops_at item at count i old total lt h so_far =
    let k : count - i ≡ suc (count - (i + 1)) = omega arith in
    let one : after (items_field item (count - i) old) ≡ Err at = rw (k, h) refl in
    sym so_far ∙ one

pub pass_done : {A : Type 0} (item : Reading A) (count i : ℕ) (old : Unread) (total : Result Unread ℕ) → count ≤ i → after (items_field item (count - i) old) ≡ total → total ≡ Ok old
unfolding items_field
pass_done item count i old total le so_far =
    let k : count - i ≡ 0 = omega arith in
    let one : after (items_field item (count - i) old) ≡ Ok old = rw k refl in
    sym so_far ∙ one

pub claim_pass_on : (before : Claim) (count i : ℕ) (old new : Unread) (x : Claim) (total : Result Unread ℕ) → i < count → next_claim_field before old ≡ Ok (x, new)
    → after (claims_field (count - i) before old) ≡ total → after (claims_field (count - (i + 1)) x new) ≡ total
unfolding claims_field
claim_pass_on before count i old new x total lt h so_far =
    let k : count - i ≡ suc (count - (i + 1)) = omega arith in
    let one : after (claims_field (count - i) before old) ≡ after (claims_field (count - (i + 1)) x new) = rw (k, h) (after_last (claims_field (count - (i + 1)) x new) (λ others. x ∷ others)) in
    sym one ∙ so_far

pub claim_pass_stops_at : (before : Claim) (at : ℕ) (count i : ℕ) (old : Unread) (total : Result Unread ℕ) → i < count → next_claim_field before old ≡ Err at → after (claims_field (count - i) before old) ≡ total → total ≡ Err at
unfolding claims_field
claim_pass_stops_at before at count i old total lt h so_far =
    let k : count - i ≡ suc (count - (i + 1)) = omega arith in
    let one : after (claims_field (count - i) before old) ≡ Err at = rw (k, h) refl in
    sym so_far ∙ one

pub claim_pass_done : (before : Claim) (count i : ℕ) (old : Unread) (total : Result Unread ℕ) → count ≤ i → after (claims_field (count - i) before old) ≡ total → total ≡ Ok old
unfolding claims_field
claim_pass_done before count i old total le so_far =
    let k : count - i ≡ 0 = omega arith in
    let one : after (claims_field (count - i) before old) ≡ Ok old = rw k refl in
    sym so_far ∙ one
