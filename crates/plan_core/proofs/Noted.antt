-- The positions that notes name.
use Rattle.std.proofs.Common.{◌≡◌, ◌≢◌, ◌↔◌, ◌⊎◌, ℕ, zero, suc, ◌+◌, ◌<◌, ◌≤◌, Bool, true, false, not, ◌||◌, nat_eq, if◌then◌else◌, List, [], ◌∷◌, ◌++◌, length, map, get_or, slice_get, Option, Some, None, filter, All, AllPairs, Contains, inl, inr, refl, ap, sym, subst, ◌∙◌, arith}
use Rattle.std.proofs.lemmas.Bool.{cases_eq}
use Rattle.std.proofs.lemmas.Grind.{common_steps}
use Rattle.std.proofs.lemmas.List.{append-nil, append_assoc}
use Rattle.std.proofs.lemmas.List.Elements.{Contains-append_cases, Contains-append_left, Contains-append_right, filter-append}
use Rattle.std.proofs.lemmas.List.Kept.{AllPairs-filter}
use Rattle.std.proofs.lemmas.Option.{same_Some}
use Rattle.plan_core.specs.declared.notes.Note.{Note}
use Rattle.plan_core.specs.Parties.{is_at, marked, position_in, positions}
use Rattle.plan_core.proofs.Lists.{mapped, mapping}

abbrev pub named : Bool → Option ℕ → List ℕ
named lost entry = if lost then [] else position_in entry

pub positions_append : (xs ys : List Note) → positions (xs ++ ys) ≡ positions xs ++ positions ys
positions_append [] ys = refl
positions_append (x ∷ xs) ys = ap (λ rest. named x.lost x.entry ++ rest) (positions_append xs ys) ∙ sym (append_assoc (named x.lost x.entry) (positions xs) (positions ys))

-- a note more, whose entry is not lost
pub positions_noted : (log : List Note) (point : ℕ) (entry : Option ℕ) → positions (log ++ (record { point = point; entry = entry; lost = false }) ∷ []) ≡ positions log ++ position_in entry
positions_noted log point entry = positions_append log ((record { point = point; entry = entry; lost = false }) ∷ []) ∙ ap (λ rest. positions log ++ rest) (append-nil (position_in entry))

named_one : (lost : Bool) (entry : Option ℕ) (at : ℕ) → Contains (named lost entry) at → (lost ≡ false) × (entry ≡ Some at)
named_one true entry at (k, within, here) = absurd (omega (arith, within))
named_one false None at (k, within, here) = absurd (omega (arith, within))
named_one false (Some p) at (zero, within, here) = (refl, ap Some here)
named_one false (Some p) at (suc k, within, here) = absurd (omega (arith, within))

one_named : (lost : Bool) (entry : Option ℕ) (at : ℕ) → lost ≡ false → entry ≡ Some at → Contains (named lost entry) at
one_named true entry at found here = let wrong : ◌≡◌ {A = Bool} true false = found in cc
one_named false None at found here = let wrong : ◌≡◌ {A = Option ℕ} None (Some at) = here in cc
one_named false (Some p) at found here = (zero, omega arith, same_Some p at here)

-- a position is named where a note that is not lost has it
pub named_there : (log : List Note) (at : ℕ) → Contains (positions log) at → (k : ℕ) × (note : Note) × (slice_get log k ≡ Some note) × (note.lost ≡ false) × (note.entry ≡ Some at)
named_there [] at (k, within, here) = absurd (omega (arith, within))
named_there (x ∷ xs) at inside = elim (Contains-append_cases (named x.lost x.entry) (positions xs) at inside) [
  | inl first ↦ let one = named_one x.lost x.entry at first in (zero, x, refl, one.0, one.1)
  | inr rest ↦ let one = named_there xs at rest in (suc one.0, one.1, one.2, one.3, one.4)
]

pub there_named : (log : List Note) (at k : ℕ) (note : Note) → slice_get log k ≡ Some note → note.lost ≡ false → note.entry ≡ Some at → Contains (positions log) at
there_named [] at k note here found entry = let wrong : ◌≡◌ {A = Option Note} None (Some note) = here in cc
there_named (x ∷ xs) at zero note here found entry =
    let same = same_Some x note here in
    Contains-append_left (named x.lost x.entry) (positions xs) at (one_named x.lost x.entry at (ap (λ (it : Note). it.lost) same ∙ found) (ap (λ (it : Note). it.entry) same ∙ entry))
there_named (x ∷ xs) at (suc k) note here found entry = Contains-append_right (named x.lost x.entry) (positions xs) at (there_named xs at k note here found entry)

-- the notes with one position marked as lost name the others
abbrev pub other_than : ℕ → ℕ → Bool
other_than at position = not (nat_eq position at)

marked_one : (at : ℕ) (lost : Bool) (entry : Option ℕ) → named (lost || is_at at entry) entry ≡ filter (other_than at) (named lost entry)
marked_one at true entry = refl
marked_one at false None = refl
marked_one at false (Some p) = grind (arith, common_steps)

pub marked_positions : (at : ℕ) (log : List Note) → positions (map (marked at) log) ≡ filter (other_than at) (positions log)
marked_positions at [] = refl
marked_positions at (x ∷ xs) = ap (λ first. first ++ positions (map (marked at) xs)) (marked_one at x.lost x.entry) ∙ (ap (λ rest. filter (other_than at) (named x.lost x.entry) ++ rest) (marked_positions at xs) ∙ sym (filter-append (other_than at) (named x.lost x.entry) (positions xs)))

pub marked_ascend : (at : ℕ) (log : List Note) → AllPairs (λ one later. one < later) (positions log) → AllPairs (λ one later. one < later) (positions (map (marked at) log))
marked_ascend at log ascend = subst (AllPairs (λ one later. one < later)) (sym (marked_positions at log)) (AllPairs-filter (λ one later. one < later) (other_than at) (positions log) ascend)

-- a note that is marked, and was not lost, is not at this position
not_marked : (at position : ℕ) (lost : Bool) (entry : Option ℕ) → (lost || is_at at entry) ≡ false → entry ≡ Some position → (lost ≡ false) × (position ≢ at)
not_marked at position true entry found here = let wrong : ◌≡◌ {A = Bool} true false = found in cc
not_marked at position false None found here = let wrong : ◌≡◌ {A = Option ℕ} None (Some position) = here in cc
not_marked at position false (Some p) found here = (refl, λ same. let one : p ≡ at = same_Some p position here ∙ same in grind (arith, common_steps, one, found))

unmarked : (at position : ℕ) (lost : Bool) (entry : Option ℕ) → lost ≡ false → entry ≡ Some position → position ≢ at → (lost || is_at at entry) ≡ false
unmarked at position true entry found here differ = found
unmarked at position false None found here differ = refl
unmarked at position false (Some p) found here differ = let one : p ≡ position = same_Some p position here in grind (arith, common_steps, one, differ)

pub marked_names : (at : ℕ) (log : List Note) (position : ℕ) → Contains (positions (map (marked at) log)) position → Contains (positions log) position × (position ≢ at)
marked_names at log position inside =
    let one = named_there (map (marked at) log) position inside in
    let was = mapped (marked at) log one.0 one.1 one.2 in
    let found = not_marked at position was.0.lost was.0.entry (sym (ap (λ (it : Note). it.lost) was.2) ∙ one.3) (sym (ap (λ (it : Note). it.entry) was.2) ∙ one.4) in
    (there_named log position one.0 was.0 was.1 found.0 (sym (ap (λ (it : Note). it.entry) was.2) ∙ one.4), found.1)

pub names_marked : (at : ℕ) (log : List Note) (position : ℕ) → Contains (positions log) position → position ≢ at → Contains (positions (map (marked at) log)) position
names_marked at log position inside differ =
    let one = named_there log position inside in
    there_named (map (marked at) log) position one.0 (marked at one.1) (mapping (marked at) log one.0 one.1 one.2) (unmarked at position one.1.lost one.1.entry one.3 one.4 differ) one.4
