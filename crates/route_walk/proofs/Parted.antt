-- A list that a test parts, and how many pass it.
use Rattle.std.proofs.Common.{◌≡◌, ◌∙◌, ℕ, zero, suc, ◌+◌, ◌<◌, ◌≤◌, Bool, true, false, cond, List, [], ◌∷◌, length, get_or, nat_eq, nat_lt, refl, sym, ap, subst, inl, inr, arith, ◌⊎◌}
use Rattle.std.proofs.lemmas.Bool.{cases_order, eqb-true, eq-eqb, ltb-true, lt-ltb, le-ltb}
use Rattle.std.proofs.lemmas.List.Sums.{sum_by-cons}
use Rattle.std.specs.List.{AllPairs, count_by}
use Rattle.std.specs.List.Sorted.{IsNonDecreasingBy, IsPartitionPoint, IsPartitionedBy}
use Rattle.track_graph.specs.declared.pieces.Piece.{Piece}
use Rattle.track_graph.specs.declared.stands.Stand.{Stand}
use Rattle.track_graph.specs.Stands.{ComesBefore}
use Rattle.route_walk.specs.Counts.{stands_before}

pub one_counts : {X : Type 0} (p : X → Bool) (x : X) (xs : List X) (b : Bool) → p x ≡ b → count_by p (x ∷ xs) ≡ cond b 1 0 + count_by p xs
one_counts {X} p x xs b e = sum_by-cons (λ (y : X). cond (p y) 1 0) x xs ∙ ap (λ (c : Bool). cond c 1 0 + count_by p xs) e

none_count : {X : Type 0} (p : X → Bool) (xs : List X) → ((k : ℕ) (d : X) → k < length xs → p (get_or xs k d) ≡ false) → count_by p xs ≡ 0
none_count {X} p [] all = refl
none_count {X} p (x ∷ xs) all =
    let one = one_counts p x xs false (all 0 x (omega arith)) in
    let rest = none_count p xs (λ k d h. all (suc k) d (omega arith)) in
    omega arith

pub parted_count : {X : Type 0} (p : X → Bool) (xs : List X) (i : ℕ) → i ≤ length xs → IsPartitionPoint (λ y. p y ≡ true) (λ y. p y ≡ false) xs i → i ≡ count_by p xs
parted_count {X} p xs zero h (low, high) = sym (none_count p xs (λ k d w. high k d (omega arith) w))
parted_count {X} p [] (suc i) h (low, high) = absurd (omega arith)
parted_count {X} p (x ∷ xs) (suc i) h (low, high) =
    let one = one_counts p x xs true (low 0 x (omega arith) (omega arith)) in
    let rest = parted_count p xs i (omega arith) ((λ k d g w. low (suc k) d (omega arith) (omega arith)), (λ k d g w. high (suc k) d (omega arith) (omega arith))) in
    omega arith

-- what holds by pairs, holds of an element and itself or a later one
ordered : {X : Type 0} (p : X → Bool) (xs : List X) → ((i j : ℕ) (d : X) → i < j → j < length xs → p (get_or xs j d) ≡ true → p (get_or xs i d) ≡ true) → IsPartitionedBy p xs
ordered {X} p xs apart i j d less within test = elim (cases_order i j) [
  | inl same ↦ subst (λ (q : ℕ). p (get_or xs q d) ≡ true) (sym same) test
  | inr differ ↦ elim differ [
    | inl before ↦ apart i j d before within test
    | inr behind ↦ absurd (omega arith)
  ]
]

pub parted_below : (row : List Stand) (metre : ℕ) → AllPairs ComesBefore row → IsPartitionedBy (λ (stand : Stand). nat_lt stand.position metre) row
parted_below row metre order = ordered (λ (stand : Stand). nat_lt stand.position metre) row (λ i j d less within test.
    let low = ltb-true (get_or row j d).position metre test in
    elim (order i j d less within) [
      | inl lower ↦ lt-ltb (get_or row i d).position metre (omega arith)
      | inr level ↦ (let same = level.0 in lt-ltb (get_or row i d).position metre (omega arith))
    ])

before_true : (metre number : ℕ) (stand : Stand) → (stand.position < metre) ⊎ ((stand.position ≡ metre) × (stand.number < number)) → stands_before metre number stand ≡ true
before_true metre number stand (inl less) = ap (λ (b : Bool). cond b true (cond (nat_eq stand.position metre) (nat_lt stand.number number) false)) (lt-ltb stand.position metre less)
before_true metre number stand (inr (same, less)) =
    ap (λ (b : Bool). cond b true (cond (nat_eq stand.position metre) (nat_lt stand.number number) false)) (le-ltb stand.position metre (omega arith))
    ∙ (ap (λ (b : Bool). cond b (nat_lt stand.number number) false) (eq-eqb stand.position metre same) ∙ lt-ltb stand.number number less)

before_cases : (a b c : Bool) → cond a true (cond b c false) ≡ true → (a ≡ true) ⊎ ((b ≡ true) × (c ≡ true))
before_cases true b c e = inl refl
before_cases false true true e = inr (refl, refl)
before_cases false true false e = absurd (cc)
before_cases false false c e = absurd (cc)

pub before_is : (metre number : ℕ) (stand : Stand) → stands_before metre number stand ≡ true → (stand.position < metre) ⊎ ((stand.position ≡ metre) × (stand.number < number))
before_is metre number stand e = elim (before_cases (nat_lt stand.position metre) (nat_eq stand.position metre) (nat_lt stand.number number) e) [
  | inl less ↦ inl (ltb-true stand.position metre less)
  | inr level ↦ inr (eqb-true stand.position metre level.0, ltb-true stand.number number level.1)
]

pub parted_rank : (row : List Stand) (metre number : ℕ) → AllPairs ComesBefore row → IsPartitionedBy (stands_before metre number) row
parted_rank row metre number order = ordered (stands_before metre number) row (λ i j d less within test.
    before_true metre number (get_or row i d) (elim (before_is metre number (get_or row j d) test) [
      | inl low ↦ elim (order i j d less within) [
        | inl lower ↦ inl (omega arith)
        | inr level ↦ (let same = level.0 in inl (omega arith))
      ]
      | inr at ↦ (let here = at.0 in let under = at.1 in elim (order i j d less within) [
        | inl lower ↦ inl (omega arith)
        | inr level ↦ (let same = level.0 in let first = level.1 in inr ((omega arith), (omega arith)))
      ])
    ]))

pub parted_begins : (pieces : List Piece) (metre : ℕ) → IsNonDecreasingBy (λ (piece : Piece). piece.begin) pieces → IsPartitionedBy (λ (piece : Piece). nat_lt piece.begin metre) pieces
parted_begins pieces metre order i j d less within test =
    let low = ltb-true (get_or pieces j d).begin metre test in
    let up = order i j d less within in
    lt-ltb (get_or pieces i d).begin metre (omega arith)
