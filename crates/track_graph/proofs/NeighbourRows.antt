-- Rows of neighbours, a join at a time.
use Rattle.std.proofs.Common.{◌≡◌, ℕ, ◌<◌, List, [], ◌∷◌, ◌++◌, length, sym, ap, subst, ◌∙◌, inl, inr, arith, ◌⊎◌}
use Rattle.std.proofs.lemmas.List.{get_or-set_same, get_or-set_other, get_or_past}
use Rattle.std.proofs.lemmas.List.Elements.{Contains-push, Contains-push_cases, Contains-append_left, All-contains}
use Rattle.std.proofs.lemmas.Bool.{cases_eq, cases_lt}
use Rattle.std.proofs.Math.ListN.{set}
use Rattle.std.specs.List.{Contains, All}
use Rattle.track_graph.specs.declared.neighbours.Join.{Join}
use Rattle.track_graph.specs.Neighbours.{AreNamed, AreWithin, IsNextTo, AreMutual, AreInside, ShowJoins, row_at}

-- the rows with one more neighbour
abbrev grown : List (List ℕ) → ℕ → ℕ → List (List ℕ)
grown rows to piece = set rows to (row_at rows to ++ piece ∷ [])

grown_same : (rows : List (List ℕ)) (to piece : ℕ) → to < length rows → row_at (grown rows to piece) to ≡ row_at rows to ++ piece ∷ []
grown_same rows to piece h = get_or-set_same rows to (row_at rows to ++ piece ∷ []) [] h

grown_other : (rows : List (List ℕ)) (to piece a : ℕ) → (a ≡ to → ⊥) → row_at (grown rows to piece) a ≡ row_at rows a
grown_other rows to piece a n = get_or-set_other rows to a (row_at rows to ++ piece ∷ []) [] n

next_kept : (rows : List (List ℕ)) (to piece a b : ℕ) → to < length rows → IsNextTo rows a b → IsNextTo (grown rows to piece) a b
next_kept rows to piece a b h n = elim (cases_eq a to) [
  | inl e ↦ subst (λ (x : ℕ). Contains (row_at (grown rows to piece) x) b) (sym e)
      (subst (λ (row : List ℕ). Contains row b) (sym (grown_same rows to piece h)) (Contains-append_left (row_at rows to) (piece ∷ []) b (subst (λ (x : ℕ). IsNextTo rows x b) e n)))
  | inr differ ↦ subst (λ (row : List ℕ). Contains row b) (sym (grown_other rows to piece a differ)) n
]

next_new : (rows : List (List ℕ)) (to piece : ℕ) → to < length rows → IsNextTo (grown rows to piece) to piece
next_new rows to piece h = subst (λ (row : List ℕ). Contains row piece) (sym (grown_same rows to piece h)) (Contains-push (row_at rows to) piece)

next_cases : (rows : List (List ℕ)) (to piece a b : ℕ) → to < length rows → IsNextTo (grown rows to piece) a b → IsNextTo rows a b ⊎ ((to ≡ a) × (piece ≡ b))
next_cases rows to piece a b h n = elim (cases_eq a to) [
  | inl e ↦
      let here = subst (λ (x : ℕ). IsNextTo (grown rows to piece) x b) e n in
      elim (Contains-push_cases (row_at rows to) piece b (subst (λ (row : List ℕ). Contains row b) (grown_same rows to piece h) here)) [
        | inl i ↦ inl (subst (λ (x : ℕ). IsNextTo rows x b) (sym e) i)
        | inr same ↦ inr (sym e, same)
      ]
  | inr differ ↦ inl (subst (λ (row : List ℕ). Contains row b) (grown_other rows to piece a differ) n)
]

joined_kept : (joins : List Join) (join : Join) (a b : ℕ) → AreNamed joins a b → AreNamed (joins ++ join ∷ []) a b
joined_kept joins join a b (inl i) = inl (Contains-append_left joins (join ∷ []) (record { one = a; other = b }) i)
joined_kept joins join a b (inr i) = inr (Contains-append_left joins (join ∷ []) (record { one = b; other = a }) i)

pub joined_back : (joins : List Join) (a b : ℕ) → AreNamed joins a b → AreNamed joins b a
joined_back joins a b (inl i) = inr i
joined_back joins a b (inr i) = inl i

pub no_rows : (rows : List (List ℕ)) → All (λ row. row ≡ []) rows → ShowJoins rows []
no_rows rows none = record {
  each = λ a b. (
    (λ n. absurd (elim (cases_lt a (length rows)) [
      | inl within ↦ (let e = ap length (none a [] within) in let k = n.1 in omega (arith, e, k))
      | inr past ↦ (let e = ap length (get_or_past rows a [] past) in let k = n.1 in omega (arith, e, k))
    ])),
    (λ j. absurd (elim j [ inl i ↦ omega (arith, i.1) | inr i ↦ omega (arith, i.1) ])),
  );
}

-- both pieces of the last join name each other, and the rest is as before
pub rows_more : (rows mid new : List (List ℕ)) (joins : List Join) (join : Join) → ShowJoins rows joins → join.one < length rows → join.other < length mid → mid ≡ set rows join.one (row_at rows join.one ++ join.other ∷ []) → new ≡ set mid join.other (row_at mid join.other ++ join.one ∷ []) → ShowJoins new (joins ++ join ∷ [])
rows_more rows mid new joins join shown one_in other_in first second =
    let newest : Contains (joins ++ join ∷ []) join = Contains-push joins join in
    let there : (a b : ℕ) → (join.one ≡ a) × (join.other ≡ b) → AreNamed (joins ++ join ∷ []) a b = λ a b same.
    inl (subst (Contains (joins ++ join ∷ [])) (ap (λ (x : ℕ). record join { one = x }) same.0 ∙ ap (λ (y : ℕ). record { one = a; other = y }) same.1) newest) in
    let from_mid : (a b : ℕ) → IsNextTo mid a b → AreNamed (joins ++ join ∷ []) a b = λ a b n.
    elim (next_cases rows join.one join.other a b one_in (subst (λ (xs : List (List ℕ)). IsNextTo xs a b) first n)) [
      | inl i ↦ joined_kept joins join a b ((shown.each a b).0 i)
      | inr same ↦ there a b same
    ] in
    let to_mid : (a b : ℕ) → IsNextTo rows a b → IsNextTo mid a b = λ a b n. subst (λ (xs : List (List ℕ)). IsNextTo xs a b) (sym first) (next_kept rows join.one join.other a b one_in n) in
    let to_new : (a b : ℕ) → IsNextTo mid a b → IsNextTo new a b = λ a b n. subst (λ (xs : List (List ℕ)). IsNextTo xs a b) (sym second) (next_kept mid join.other join.one a b other_in n) in
    let forward : IsNextTo new join.one join.other = to_new join.one join.other (subst (λ (xs : List (List ℕ)). IsNextTo xs join.one join.other) (sym first) (next_new rows join.one join.other one_in)) in
    let backward : IsNextTo new join.other join.one = subst (λ (xs : List (List ℕ)). IsNextTo xs join.other join.one) (sym second) (next_new mid join.other join.one other_in) in
    record {
      each = λ a b. (
        (λ n. elim (next_cases mid join.other join.one a b other_in (subst (λ (xs : List (List ℕ)). IsNextTo xs a b) second n)) [
          | inl i ↦ from_mid a b i
          | inr same ↦ joined_back (joins ++ join ∷ []) b a (there b a (same.1, same.0))
        ]),
        (λ j. elim j [
          | inl i ↦ elim (Contains-push_cases joins join (record { one = a; other = b }) i) [
            | inl old ↦ to_new a b (to_mid a b ((shown.each a b).1 (inl old)))
            | inr e ↦ subst (λ (x : Join). IsNextTo new x.one x.other) e forward
          ]
          | inr i ↦ elim (Contains-push_cases joins join (record { one = b; other = a }) i) [
            | inl old ↦ to_new a b (to_mid a b ((shown.each a b).1 (inr old)))
            | inr e ↦ subst (λ (x : Join). IsNextTo new x.other x.one) e backward
          ]
        ]),
      );
    }

pub rows_inside : (rows : List (List ℕ)) (joins : List Join) → ShowJoins rows joins → AreWithin (length rows) joins → AreInside rows
rows_inside rows joins shown within = record {
  below = λ a b n. elim ((shown.each a b).0 n) [
    | inl i ↦ (All-contains (λ (join : Join). (join.one < length rows) × (join.other < length rows)) joins (record { one = a; other = b }) within i).1
    | inr i ↦ (All-contains (λ (join : Join). (join.one < length rows) × (join.other < length rows)) joins (record { one = b; other = a }) within i).0
  ];
}

pub rows_mutual : (rows : List (List ℕ)) (joins : List Join) → ShowJoins rows joins → AreMutual rows
rows_mutual rows joins shown = record { back = λ a b n. (shown.each b a).1 (joined_back joins a b ((shown.each a b).0 n)) }
