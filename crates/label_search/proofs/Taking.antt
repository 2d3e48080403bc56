-- What is put into a bucket, and taken out of the first one that is not empty.
use Rattle.std.proofs.Common.{◌≡◌, ◌⊎◌, ℕ, ◌<◌, ◌≤◌, List, [], ◌∷◌, ◌++◌, length, get_or, min, max, set, sym, subst, ap, ◌∙◌, inl, inr, arith, Contains}
use Rattle.std.specs.Prelude.{ℤ, pos, ◌+ℤ◌, ◌≤ℤ◌}
use Rattle.std.proofs.lemmas.Bool.{cases_lt, cases_eq}
use Rattle.std.proofs.lemmas.Int.{ints}
use Rattle.std.proofs.lemmas.List.{get_or-set_same, get_or-set_other}
use Rattle.std.proofs.lemmas.List.Elements.{Contains-append_left, Contains-push_cases}
use Rattle.label_search.specs.declared.queues.Due.{Due}
use Rattle.label_search.specs.Queues.{IsQueue}

module _ (buckets : List (List Due)) (first : ℕ) (begun : ℤ) (is : IsQueue buckets first begun) where
  -- the last of a bucket is taken
  module _ (left : List Due) (due : Due) (within : first < length buckets) (last : get_or buckets first [] ≡ left ++ due ∷ []) where
    pub rest : (at : ℕ) (one : Due) → Contains (get_or buckets at []) one → Contains (get_or (set buckets first left) at []) one ⊎ (one ≡ due)
    rest at one there = elim (cases_eq at first) [
      | inl same ↦ elim (Contains-push_cases left due one (subst (λ all. Contains all one) (ap (λ t. get_or buckets t []) same ∙ last) there)) [
        | inl before ↦ inl (subst (λ t. Contains (get_or (set buckets first left) t []) one) (sym same) (subst (λ all. Contains all one) (sym (get_or-set_same buckets first left [] within)) before))
        | inr here ↦ inr (sym here)
      ]
      | inr differs ↦ inl (subst (λ all. Contains all one) (sym (get_or-set_other buckets first at left [] differs)) there)
    ]

    only : (at : ℕ) (one : Due) → Contains (get_or (set buckets first left) at []) one → Contains (get_or buckets at []) one
    only at one there = elim (cases_eq at first) [
      | inl same ↦ subst (λ t. Contains (get_or buckets t []) one) (sym same) (subst (λ all. Contains all one) (sym last) (Contains-append_left left (due ∷ []) one (subst (λ all. Contains all one) (get_or-set_same buckets first left [] within) (subst (λ t. Contains (get_or (set buckets first left) t []) one) same there))))
      | inr differs ↦ subst (λ all. Contains all one) (get_or-set_other buckets first at left [] differs) there
    ]

    pub queue_taken : IsQueue (set buckets first left) first begun
    queue_taken = record {
      begun = is.begun;
      none = λ at early. get_or-set_other buckets first at left [] (omega arith) ∙ is.none at early;
      behind = λ at one there later. is.behind at one (only at one there) later;
    }

  -- what is due before the first bucket that is not empty is due before nothing that waits
  pub none_due : (stop : ℤ) (ticks end : ℕ) → (0 < ticks → (begun +ℤ pos ticks) ≡ stop) → (ticks ≡ 0 → stop ≤ℤ begun) → end ≡ max ticks 1 → end ≤ first → (at : ℕ) (due : Due) → Contains (get_or buckets at []) due → stop ≤ℤ due.tick
  none_due stop ticks end some none end_is reached at due there = elim (cases_lt at first) [
    | inl before ↦ let empty = subst (λ all. Contains all due) (is.none at before) there in absurd (omega (arith, empty.1))
    | inr behind ↦
        let late : (begun +ℤ pos at) ≤ℤ due.tick = is.behind at due there (omega arith) in
        elim (cases_eq ticks 0) [
          | inl none_there ↦ let early = none none_there in omega (arith, ints)
          | inr differs ↦ let equal = some (omega arith) in omega (arith, ints)
        ]
  ]

  -- work is put into a bucket
  pub queue_put : (at next : ℕ) (due : Due) → at < length buckets → (0 < at → (begun +ℤ pos at) ≤ℤ due.tick) → next ≡ min first at → IsQueue (set buckets at (get_or buckets at [] ++ due ∷ [])) next begun
  queue_put at next due within late next_is = record {
    begun = is.begun;
    none = λ one early. get_or-set_other buckets at one (get_or buckets at [] ++ due ∷ []) [] (omega arith) ∙ is.none one (omega arith);
    behind = λ one other there later. elim (cases_eq one at) [
      | inl same ↦
          let inside : Contains (get_or buckets at [] ++ due ∷ []) other = subst (λ all. Contains all other) (get_or-set_same buckets at (get_or buckets at [] ++ due ∷ []) [] within) (subst (λ t. Contains (get_or (set buckets at (get_or buckets at [] ++ due ∷ [])) t []) other) same there) in
          elim (Contains-push_cases (get_or buckets at []) due other inside) [
            | inl before ↦ is.behind one other (subst (λ t. Contains (get_or buckets t []) other) (sym same) before) later
            | inr here ↦ let known = late (omega arith) in subst (λ d. (begun +ℤ pos one) ≤ℤ d.tick) here (subst (λ t. (begun +ℤ pos t) ≤ℤ due.tick) (sym same) known)
          ]
      | inr differs ↦ is.behind one other (subst (λ all. Contains all other) (get_or-set_other buckets at one (get_or buckets at [] ++ due ∷ []) [] differs) there) later
    ];
  }
