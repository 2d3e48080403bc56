-- Labels in the order of their numbers.
use Rattle.std.proofs.Common.{Less, ◌≡◌, ◌∙◌, ℕ, ◌+◌, ◌-◌, ◌<◌, Bool, true, false, List, [], ◌∷◌, ◌++◌, length, get_or, sym, subst, inl, inr, refl, arith, ap, All}
use Rattle.std.specs.Prelude.{ℤ, ◌<ℤ◌, ◌≤ℤ◌, int_le, nat_lt, nat_eq, ◌&&◌, ◌||◌, Any}
use Rattle.std.specs.Int.{int_min}
use Rattle.std.specs.List.{AllPairs, AllWithin}
use Rattle.std.specs.List.Sorted.{IsPartitionedBy, IsPermutation, IsSortedBy}
use Rattle.std.specs.Ordering.{nat_cmp, int_cmp, ordering_then, is_lt, on, then_cmp}
use Rattle.std.proofs.lemmas.Cmp.{by_ranked, ranked, int_ranked, then_total, on_total, nat_cmp_total, int_cmp_total}
use Rattle.std.proofs.lemmas.List.{get_or_append_left, get_or_at, get_or_default, length-append}
use Rattle.std.proofs.lemmas.List.Elements.{All-push}
use Rattle.std.proofs.lemmas.List.Quantifiers.{all_pairs_push}
use Rattle.std.proofs.lemmas.List.Sorted.{Contains-permutation, IsPermutation-sym, sorted_far, ranks_by}
use Rattle.std.proofs.lemmas.Bool.{cases_order, cases_Bool}
use Rattle.std.proofs.lemmas.Int.{ints, by_lt_z, clamps}
use Rattle.rail_types.specs.declared.paths.Window.{Window}
use Rattle.stair_pieces.specs.Moves.{IsInside}
use Rattle.refusal_proof.specs.declared.labels.Label.{Label}
use Rattle.refusal_proof.specs.Inside.{BeginsBy, ComesBefore, CoverAlike, AreGrown, IsCovered, IsCoveredTo, IsGrown, IsReaching, ReachesLess}

abbrev pub begins_by : Label → ℕ → ℤ → Bool
begins_by one number tick = nat_lt one.number number || (nat_eq one.number number && int_le one.window.from tick)

pub begun : (one : Label) (number : ℕ) (tick : ℤ) → begins_by one number tick ≡ true → BeginsBy number tick one
begun one number tick test = grind (arith, ints)

pub not_begun : (one : Label) (number : ℕ) (tick : ℤ) → begins_by one number tick ≡ false → ¬ BeginsBy number tick one
not_begun one number tick test (inl lower) = grind (arith, ints)
not_begun one number tick test (inr here) = let same = here.0 in let early = here.1 in grind (arith, ints)

begun_true : (one : Label) (number : ℕ) (tick : ℤ) → BeginsBy number tick one → begins_by one number tick ≡ true
begun_true one number tick is = elim (cases_Bool (begins_by one number tick)) [
  | inl passes ↦ passes
  | inr fails ↦ absurd (not_begun one number tick fails is)
]

begun_before : (one other : Label) (number : ℕ) (tick : ℤ) → ReachesLess one other → BeginsBy number tick other → BeginsBy number tick one
begun_before one other number tick (inl lower) (inl below) = inl (omega arith)
begun_before one other number tick (inl lower) (inr here) = let same = here.0 in inl (omega arith)
begun_before one other number tick (inr same) (inl below) = let number = same.0 in inl (omega arith)
begun_before one other number tick (inr same) (inr here) = inr (same.0 ∙ here.0, let first = same.1.0 in let early = here.1 in omega (arith, ints))

pub parted : (labels : List Label) (number : ℕ) (tick : ℤ) → AllPairs ReachesLess labels → IsPartitionedBy (λ one. begins_by one number tick) labels
parted labels number tick sorted i j other le within test = elim (cases_order i j) [
  | inl same ↦ subst (λ q. begins_by (get_or labels q other) number tick ≡ true) (sym same) test
  | inr apart ↦ elim apart [
    | inl before ↦ begun_true (get_or labels i other) number tick (begun_before (get_or labels i other) (get_or labels j other) number tick (sorted i j other before within) (begun (get_or labels j other) number tick test))
    | inr behind ↦ absurd (omega arith)
  ]
]

-- the last label that has begun reaches as far as any
module _ (labels : List Label) (number : ℕ) (at : Window) (count : ℕ) (order : AllPairs ReachesLess labels) (bound : count < length labels + 1)
    (before : AllWithin (BeginsBy number at.from) labels 0 count) (after : AllWithin (λ one. ¬ BeginsBy number at.from one) labels count (length labels)) where
  -- a label that covers the tick has begun
  has_begun : (k : ℕ) (d : Label) → k < length labels → (get_or labels k d).number ≡ number → (get_or labels k d).window.from ≤ℤ at.from → k < count
  has_begun k d within same early = elim (cases_order k count) [
    | inl is ↦ absurd (after k d (omega arith) within (inr (same, early)))
    | inr apart ↦ elim apart [ inl less ↦ less | inr more ↦ absurd (after k d (omega arith) within (inr (same, early))) ]
  ]

  pub none_begun : count ≡ 0 → ¬ IsCovered labels number at.from
  none_begun none (k, one, within, is, (same, inside)) =
      let less = has_begun k one within (ap (λ (l : Label). l.number) is ∙ same) (subst (λ (l : Label). l.window.from ≤ℤ at.from) (sym is) inside.0) in
      omega (arith, less, none)

  module _ (last : Label) (some : 0 < count) (here : (d : Label) → get_or labels (count - 1) d ≡ last) where
    last_begun : BeginsBy number at.from last
    last_begun = subst (BeginsBy number at.from) (here last) (before (count - 1) last (omega arith) (omega arith))

    pub reaches : (k : ℕ) (one : Label) → k < length labels → get_or labels k one ≡ one → one.number ≡ number → IsInside one.window at.from → (last.number ≡ number) × (at.from ≤ℤ last.window.to)
    reaches k one within is same inside =
        let less = has_begun k one within (ap (λ (l : Label). l.number) is ∙ same) (subst (λ (l : Label). l.window.from ≤ℤ at.from) (sym is) inside.0) in
        elim (cases_order k (count - 1)) [
          | inl at_last ↦ let it : one ≡ last = sym is ∙ ap (λ q. get_or labels q one) at_last ∙ here one in (ap (λ (l : Label). l.number) (sym it) ∙ same, subst (λ (l : Label). at.from ≤ℤ l.window.to) it inside.1)
          | inr apart ↦ elim apart [
            | inl lower ↦ next (subst (λ l. ReachesLess l last) is (subst (ReachesLess (get_or labels k one)) (here one) (order k (count - 1) one lower (omega (arith, some, bound)))))
            | inr higher ↦ absurd (omega (arith, less, higher))
          ]
        ]
      where
        next : ReachesLess one last → (last.number ≡ number) × (at.from ≤ℤ last.window.to)
        next (inl lower) = elim last_begun [
          | inl below ↦ absurd (omega (arith, lower, below, same))
          | inr begun ↦ let number_is = begun.0 in absurd (omega (arith, lower, number_is, same))
        ]
        next (inr more) = (sym more.0 ∙ same, let far = more.1.1 in let end = inside.1 in omega (arith, ints, far, end))

    pub last_covers : last.number ≡ number → at.from ≤ℤ last.window.to → at.from ≤ℤ at.to → (covered : Window) → covered.from ≡ at.from → covered.to ≡ int_min last.window.to at.to → IsCoveredTo labels number at covered
    last_covers same reach some_ticks covered from to = record {
      from = from;
      some = omega (arith, ints, clamps, reach, some_ticks, to);
      to = omega (arith, ints, clamps, to);
      covers = λ tick inside. (count - 1, last, omega (arith, some, bound), here last, (same, (let low = inside.0 in begin tick low, let high = inside.1 in omega (arith, ints, clamps, to, high))));
    }
      where
        begin : (tick : ℤ) → covered.from ≤ℤ tick → last.window.from ≤ℤ tick
        begin tick low = elim last_begun [
          | inl below ↦ absurd (omega (arith, below, same))
          | inr begun ↦ let early = begun.1 in omega (arith, ints, early, from, low)
        ]

    pub not_covered : (last.number ≡ number → at.from ≤ℤ last.window.to → ⊥) → ¬ IsCovered labels number at.from
    not_covered never (k, one, within, is, (same, inside)) = let r = reaches k one within is same inside in never r.0 r.1

-- neither sorts before the other, or the one does
not_after : (one other : Label) → is_lt (ordering_then (nat_cmp other.number one.number) (int_cmp other.window.from one.window.from)) ≡ false → ComesBefore one other
not_after one other test =
    let starts = int_cmp other.window.from one.window.from in
    by_ranked (other.number < one.number) (other.number ≡ one.number) (one.number < other.number) (nat_cmp other.number one.number) (ranked other.number one.number _ refl)
    (λ less lower. let t : is_lt (ordering_then Less starts) ≡ false = subst (λ o. is_lt (ordering_then o starts) ≡ false) less test in absurd (cc))
    (λ equal same.
    let t : is_lt starts ≡ false = subst (λ o. is_lt (ordering_then o starts) ≡ false) equal test in
    by_ranked (other.window.from <ℤ one.window.from) (other.window.from ≡ one.window.from) (one.window.from <ℤ other.window.from) starts (int_ranked other.window.from one.window.from _ refl)
    (λ less early. let u : is_lt Less ≡ false = subst (λ o. is_lt o ≡ false) less t in absurd (cc))
    (λ equal at_once. inr (sym same, omega (arith, ints)))
    (λ greater late. inr (sym same, omega (arith, ints))))
    (λ greater higher. inl higher)

pub sorted_pairs : (labels : List Label) → IsSortedBy (λ one other. is_lt (ordering_then (nat_cmp one.number other.number) (int_cmp one.window.from other.window.from))) labels → AllPairs ComesBefore labels
sorted_pairs labels sorted i j other before within = not_after (get_or labels i other) (get_or labels j other) (sorted_far (λ one other. is_lt (ordering_then (nat_cmp one.number other.number) (int_cmp one.window.from other.window.from))) (ranks_by {R = then_cmp (on (λ p. p.0) nat_cmp) (on (λ p. p.1) int_cmp)} (then_total (on_total (λ (p : ℕ × ℤ). p.0) nat_cmp_total) (on_total (λ (p : ℕ × ℤ). p.1) int_cmp_total)) (λ (one : Label). (one.number, one.window.from))) labels sorted i j other (omega arith) within)

-- labels in another order cover alike
covered_moved : (one other : List Label) → IsPermutation one other → (number : ℕ) (tick : ℤ) → IsCovered one number tick → IsCovered other number tick
covered_moved one other moved number tick (k, label, within, is, holds) =
    let there = Contains-permutation one other label moved (k, within, is) in (there.0, label, there.1, there.2, holds)

pub moved_alike : (one other : List Label) → IsPermutation one other → CoverAlike one other
moved_alike one other moved number tick = (covered_moved one other moved number tick, covered_moved other one (IsPermutation-sym one other moved) number tick)

-- of sorted labels the first ones, so many, reach as far as those before them
pub record AreReaching (sorted : List Label) (count : ℕ) (labels : List Label) : Type 0 where
  pub length_is : length labels ≡ count
  pub order : AllPairs ReachesLess labels
  pub grown : (k : ℕ) (d : Label) → k < count → IsGrown (get_or sorted k d) (get_or labels k d)
  pub sound : All (λ label. (tick : ℤ) → IsInside label.window tick → IsCovered sorted label.number tick) labels

pub none_reaching : (sorted : List Label) → AreReaching sorted 0 []
none_reaching sorted = record {
  length_is = refl;
  order = λ i j d before inside. absurd (omega arith);
  grown = λ k d less. absurd (omega arith);
  sound = λ k d less. absurd (omega arith);
}

reaches_trans : (a b c : Label) → ReachesLess a b → ReachesLess b c → ReachesLess a c
reaches_trans a b c (inl lower) (inl below) = inl (omega arith)
reaches_trans a b c (inl lower) (inr same) = let number = same.0 in inl (omega arith)
reaches_trans a b c (inr same) (inl below) = let number = same.0 in inl (omega arith)
reaches_trans a b c (inr one) (inr two) = inr (one.0 ∙ two.0, (let x = one.1.0 in let y = two.1.0 in omega (arith, ints, x, y), let x = one.1.1 in let y = two.1.1 in omega (arith, ints, x, y)))

module _ (sorted : List Label) (order : AllPairs ComesBefore sorted) (k : ℕ) (labels : List Label) (are : AreReaching sorted k labels) (label new : Label) (within : k < length sorted) (here : (d : Label) → get_or sorted k d ≡ label) (is : IsReaching labels label new) where
  last_less : (d : Label) → 0 < k → ReachesLess (get_or labels (k - 1) d) new
  last_less d some =
      let last = are.grown (k - 1) d (omega (arith, some)) in
      let length_is = are.length_is in
      elim (subst (ComesBefore (get_or sorted (k - 1) d)) (here d) (order (k - 1) k d (omega (arith, some)) within)) [
        | inl lower ↦ inl (let a = last.number in let b = is.number in omega (arith, lower, a, b))
        | inr same ↦ inr (last.number ∙ same.0 ∙ sym is.number, (let a = last.from in let b = is.from in let c = same.1 in omega (arith, ints, a, b, c), is.last (k - 1) d (omega (arith, some, length_is)) (last.number ∙ same.0)))
      ]

  less_than_new : (j : ℕ) (d : Label) → j < length labels → ReachesLess (get_or labels j d) new
  less_than_new j d inside =
      let length_is = are.length_is in
      elim (cases_order j (k - 1)) [
        | inl same ↦ subst (λ q. ReachesLess (get_or labels q d) new) (sym same) (last_less d (omega (arith, inside, length_is)))
        | inr apart ↦ elim apart [
          | inl before ↦ reaches_trans (get_or labels j d) (get_or labels (k - 1) d) new (are.order j (k - 1) d before (omega (arith, before, inside, length_is))) (last_less d (omega (arith, inside, length_is)))
          | inr behind ↦ absurd (omega (arith, behind, inside, length_is))
        ]
      ]

  new_sound : (tick : ℤ) → IsInside new.window tick → IsCovered sorted new.number tick
  new_sound tick inside = by_lt_z label.window.to tick
      (λ past. elim is.ends [
        | inl same ↦ absurd (let high = inside.1 in omega (arith, ints, same, past, high))
        | inr one ↦ from_before past one
      ])
      (λ by. (k, label, within, here label, (sym is.number, (let low = inside.0 in let from = is.from in omega (arith, ints, low, from), by))))
    where
      from_before : label.window.to <ℤ tick → Any (λ one. (one.number ≡ label.number) × (one.window.to ≡ new.window.to)) labels → IsCovered sorted new.number tick
      from_before past (j, one, within_labels, at, (same, end)) =
          let less = subst (λ l. ReachesLess l new) at (less_than_new j one within_labels) in
          let covered = subst (λ (l : Label). (tick : ℤ) → IsInside l.window tick → IsCovered sorted l.number tick) at (are.sound j one within_labels) tick (begin less, let high = inside.1 in omega (arith, ints, end, high)) in
          subst (λ n. IsCovered sorted n tick) (same ∙ sym is.number) covered
        where
          begin : ReachesLess one new → one.window.from ≤ℤ tick
          begin (inl lower) = absurd (let a = is.number in omega (arith, lower, same, a))
          begin (inr more) = let a = more.1.0 in let low = inside.0 in omega (arith, ints, a, low)

  grown_at : (j : ℕ) (d : Label) → j < k + 1 → IsGrown (get_or sorted j d) (get_or (labels ++ new ∷ []) j d)
  grown_at j d less = elim (cases_order j k) [
    | inl same ↦ subst (λ q. IsGrown (get_or sorted q d) (get_or (labels ++ new ∷ []) q d)) (sym same)
        (subst (IsGrown (get_or sorted k d)) (sym (get_or_at labels new [] d k are.length_is)) (subst (λ l. IsGrown l new) (sym (here d)) (record { number = is.number; from = is.from; to = is.to })))
    | inr apart ↦ elim apart [
      | inl before ↦ subst (IsGrown (get_or sorted j d)) (sym (get_or_append_left labels (new ∷ []) d j (let n = are.length_is in omega (arith, before, n)))) (are.grown j d before)
      | inr behind ↦ absurd (omega (arith, less, behind))
    ]
  ]

  pub next_reaching : AreReaching sorted (k + 1) (labels ++ new ∷ [])
  next_reaching = record {
    length_is = length-append labels (new ∷ []) ∙ ap (λ n. n + 1) are.length_is;
    order = all_pairs_push ReachesLess labels new are.order less_than_new;
    grown = grown_at;
    sound = All-push (λ label. (tick : ℤ) → IsInside label.window tick → IsCovered sorted label.number tick) labels new are.sound new_sound;
  }

pub all_alike : (sorted labels : List Label) (count : ℕ) → length sorted < count + 1 → AreReaching sorted count labels → CoverAlike sorted labels
all_alike sorted labels count all are number tick = (
  (λ (k, one, within, at, (same, inside)).
      let grown = subst (λ l. IsGrown l (get_or labels k one)) at (are.grown k one (omega (arith, all, within))) in
      let length_is = are.length_is in
      let inside_labels : k < length labels = omega (arith, all, within, length_is) in
      (k, get_or labels k one, inside_labels, get_or_default labels k (get_or labels k one) one inside_labels, (grown.number ∙ same, (let a = grown.from in let b = inside.0 in omega (arith, ints, a, b), let a = grown.to in let b = inside.1 in omega (arith, ints, a, b))))),
  λ (k, one, within, at, (same, inside)). subst (λ n. IsCovered sorted n tick) same
      (subst (λ (l : Label). (tick : ℤ) → IsInside l.window tick → IsCovered sorted l.number tick) at (are.sound k one within) tick inside),
)

pub all_grown : (sorted labels : List Label) (count : ℕ) → length sorted < count + 1 → count < length sorted + 1 → AreReaching sorted count labels → AreGrown sorted labels
all_grown sorted labels count all most are = record {
  count = (let n = are.length_is in omega (arith, all, most, n));
  grown = λ k d within. are.grown k d (omega (arith, all, within));
}

-- grown labels are at the same numbers, and have ticks where the others do
pub grown_numbers : (sorted labels : List Label) (most : ℕ) → AreGrown sorted labels → All (λ label. label.number < most) sorted → All (λ label. label.number < most) labels
grown_numbers sorted labels most are all k d within =
    let count = are.count in
    let inside : k < length sorted = omega (arith, within, count) in
    let grown = are.grown k d inside in
    let same = grown.number in
    let low = all k d inside in
    omega (arith, same, low)

pub grown_some : (sorted labels : List Label) → AreGrown sorted labels → All (λ label. label.window.from ≤ℤ label.window.to) sorted → All (λ label. label.window.from ≤ℤ label.window.to) labels
grown_some sorted labels are all k d within =
    let count = are.count in
    let inside : k < length sorted = omega (arith, within, count) in
    let grown = are.grown k d inside in
    let from = grown.from in
    let to = grown.to in
    let some = all k d inside in
    omega (arith, ints, from, to, some)
