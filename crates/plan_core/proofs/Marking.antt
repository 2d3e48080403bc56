-- What is left when the last note is marked as lost.
use Rattle.std.proofs.Common.{◌≡◌, ◌≢◌, ◌⊎◌, ℕ, zero, suc, ◌+◌, ◌-◌, ◌<◌, ◌≤◌, Bool, true, false, not, ◌||◌, nat_eq, if◌then◌else◌, List, [], ◌∷◌, ◌++◌, length, map, get_or, set, slice_get, Option, Some, None, filter, All, AllPairs, Contains, inl, inr, refl, ap, sym, subst, ◌∙◌, arith}
use Rattle.std.specs.Option.{option_or}
use Rattle.std.proofs.lemmas.Bool.{cases_eq}
use Rattle.std.proofs.lemmas.Grind.{common_steps}
use Rattle.std.proofs.lemmas.List.{append-nil}
use Rattle.std.proofs.lemmas.Option.{same_Some}
use Rattle.plan_core.specs.declared.notes.Note.{Note}
use Rattle.plan_core.specs.Inside.{first_but, IsAtLast, IsOnlyLast}
use Rattle.plan_core.specs.Parties.{is_at, marked, position_in, positions}
use Rattle.plan_core.proofs.Noted.{marked_positions, other_than, positions_noted}

-- the first position with one more behind it
pub first_noted : (all : List ℕ) (entry : Option ℕ) → option_or (slice_get all 0) entry ≡ slice_get (all ++ position_in entry) 0
first_noted [] None = refl
first_noted [] (Some at) = refl
first_noted (first ∷ others) entry = refl

-- the first position that is left without this one, which none is behind
pub first_left : (at : ℕ) (all : List ℕ) → AllPairs (λ one later. one < later) all → All (λ position. position ≤ at) all → first_but at (slice_get all 0) ≡ slice_get (filter (other_than at) all) 0
first_left at [] ascend upper = refl
first_left at (first ∷ []) ascend upper = elim (cases_eq first at) [
  | inl same ↦ grind (arith, common_steps, same)
  | inr differ ↦ grind (arith, common_steps, differ)
]
first_left at (first ∷ (second ∷ others)) ascend upper =
    let less : first < second = ascend zero (suc zero) first (omega arith) (omega arith) in
    let most : second ≤ at = upper (suc zero) first (omega arith) in
    let differ : first ≢ at = λ same. omega (arith, less, most, same) in
    grind (arith, common_steps, differ)

pub first_lost : (at : ℕ) (log : List Note) → IsAtLast at log → first_but at (slice_get (positions log) 0) ≡ slice_get (positions (map (marked at) log)) 0
first_lost at log last = first_left at (positions log) last.ascending last.up_to ∙ ap (λ all. slice_get all 0) (sym (marked_positions at log))

-- a note that is not the last is not marked
not_here : (at : ℕ) (lost : Bool) (entry : Option ℕ) → (lost ≡ false → entry ≡ Some at → ⊥) → (lost || is_at at entry) ≡ lost
not_here at true entry none = refl
not_here at false None none = refl
not_here at false (Some p) none = elim (cases_eq p at) [
  | inl same ↦ absurd (none refl (ap Some same))
  | inr differ ↦ grind (arith, common_steps, differ)
]

unmarked_note : (at : ℕ) (note : Note) → (note.lost ≡ false → note.entry ≡ Some at → ⊥) → marked at note ≡ note
unmarked_note at note none = ap (λ lost. record note { lost = lost }) (not_here at note.lost note.entry none)

pub mark_last : (at : ℕ) (log : List Note) (n : ℕ) (note d : Note) → IsOnlyLast at log → n + 1 ≡ length log → note ≡ marked at (get_or log n d) → set log n note ≡ map (marked at) log
mark_last at [] n note d last count is = absurd (omega (arith, count))
mark_last at (one ∷ []) zero note d last count is = ap (λ it. it ∷ []) is
mark_last at (one ∷ []) (suc n) note d last count is = absurd (omega (arith, count))
mark_last at (one ∷ (two ∷ others)) zero note d last count is = absurd (omega (arith, count))
mark_last at (one ∷ (two ∷ others)) (suc n) note d last count is =
    let plain : marked at one ≡ one = unmarked_note at one (λ found entry. let first = last zero one refl found entry in omega (arith, first)) in
    let rest = mark_last at (two ∷ others) n note d (λ k it here found entry. let later = last (suc k) it here found entry in omega (arith, later)) (omega (arith, count)) is in
    ap (λ it. it ∷ set (two ∷ others) n note) (sym plain) ∙ ap (λ all. marked at one ∷ all) rest
