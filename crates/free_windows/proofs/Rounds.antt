-- Free ticks, for one claim after another, and behind the last for the first again.
use Rattle.std.proofs.Common.{◌≡◌, ◌⊎◌, ℕ, ◌+◌, ◌*◌, ◌-◌, ◌<◌, ◌≤◌, List, length, get_or, sym, subst, ◌∙◌, inl, inr, arith, All}
use Rattle.std.specs.Prelude.{ℤ, pos, ◌+ℤ◌, ◌<ℤ◌, ◌≤ℤ◌}
use Rattle.std.specs.Int.{int_min, int_gap}
use Rattle.std.specs.List.{HoldsAt}
use Rattle.std.proofs.Math.Nat.{mul_comm}
use Rattle.std.proofs.lemmas.Bool.{cases_lt, cases_eq}
use Rattle.std.proofs.lemmas.Int.{ints, clamps, by_lt_z}
use Rattle.std.proofs.lemmas.Nat.{mul-add-lt}
use Rattle.rail_types.specs.declared.paths.Window.{Window}
use Rattle.free_windows.proofs.Windows.{gap_smaller}
use Rattle.free_windows.specs.Free.{Holds}
use Rattle.free_windows.specs.Starts.{IsNextWindow}

-- a place is one of so many in a row, the last of them before `at`, where behind the last of `count`
-- the first follows
abbrev pub IsAmong : ℕ → ℕ → ℕ → ℕ → Type 0
IsAmong count known at k = ((k < at) × (at ≤ k + known)) ⊎ ((at + count) ≤ (k + known))

-- `rest` is left of the window behind ticks that do not fit, and `ticks` are the first of it that so many elements in a
-- row leave free, the last of them before `at`
pub record IsRound {X : Type 0} (IsSo : ℤ → X → Type 0) (xs : List X) (within rest ticks : Window) (known at : ℕ) : Type 0 where
  pub from : within.from ≤ℤ rest.from
  pub to : rest.to ≡ within.to
  pub before : (tick : ℤ) → within.from ≤ℤ tick → tick <ℤ rest.from → ¬ All (IsSo tick) xs
  pub first : ticks.from ≡ rest.from
  pub some : ticks.from ≤ℤ ticks.to
  pub last : ticks.to ≤ℤ rest.to
  pub so : (k : ℕ) (d : X) → k < length xs → IsAmong (length xs) known at k → (tick : ℤ) → Holds ticks tick → IsSo tick (get_or xs k d)
  pub ends : (ticks.to ≡ within.to) ⊎ (¬ All (IsSo (ticks.to +ℤ pos 1)) xs)
  pub count : known ≤ length xs
  pub place : 0 < length xs → at < length xs

-- a place that is among those up to the next one is `at` itself, or was among those before
among_before : (count known at next k : ℕ) → at < count → k < count → (k ≡ at → ⊥) → (at + 1 < count → next ≡ at + 1) → (at + 1 ≡ count → next ≡ 0) → IsAmong count (known + 1) next k → IsAmong count known at k
among_before count known at next k inside is_in other on back among = elim (cases_lt (at + 1) count) [
  | inl more ↦ let same : next ≡ at + 1 = on more in elim among [
    | inl here ↦ let low = here.0 in let high = here.1 in inl (omega arith, omega arith)
    | inr past ↦ inr (omega arith)
  ]
  | inr none ↦ let start : next ≡ 0 = back (omega arith) in elim among [
    | inl here ↦ let low = here.0 in absurd (omega arith)
    | inr past ↦ inl (omega arith, omega arith)
  ]
]

next_inside : (count at next : ℕ) → at < count → (at + 1 < count → next ≡ at + 1) → (at + 1 ≡ count → next ≡ 0) → next < count
next_inside count at next inside on back = elim (cases_lt (at + 1) count) [
  | inl more ↦ let same : next ≡ at + 1 = on more in omega arith
  | inr none ↦ let start : next ≡ 0 = back (omega arith) in omega arith
]

module _ {X : Type 0} (IsSo : ℤ → X → Type 0) (xs : List X) (within : Window) where
  -- one element more leaves the first tick free
  pub round_more : (rest ticks here new : Window) (known at next : ℕ) → known < length xs → IsRound IsSo xs within rest ticks known at → IsNextWindow (λ tick. HoldsAt (IsSo tick) xs at) rest here → here.from ≡ rest.from → new.from ≡ ticks.from → new.to ≡ int_min ticks.to here.to → (at + 1 < length xs → next ≡ at + 1) → (at + 1 ≡ length xs → next ≡ 0) → IsRound IsSo xs within rest new (known + 1) next
  round_more rest ticks here new known at next more round free begins from to on back =
      let inside : at < length xs = round.place (omega arith) in
      let whole = round.to in let first = round.first in let some = round.some in let last = round.last in
      let lasts = free.ticks in let until = free.to in
      record {
        from = round.from;
        to = round.to;
        before = round.before;
        first = omega (arith, ints);
        some = omega (arith, ints, clamps);
        last = omega (arith, ints, clamps);
        so = λ k d is_in among tick held. let low = held.0 in let high = held.1 in elim (cases_eq k at) [
          | inl same ↦ subst (λ q. IsSo tick (get_or xs q d)) (sym same) (free.so tick (omega (arith, ints), omega (arith, ints, clamps)) d)
          | inr other ↦ round.so k d is_in (among_before (length xs) known at next k inside is_in other on back among) tick (omega (arith, ints), omega (arith, ints, clamps))
        ];
        ends = by_lt_z here.to ticks.to
            (λ sooner. let same : new.to ≡ here.to = omega (arith, ints, clamps) in
            elim free.ends [
              | inl all ↦ absurd (omega (arith, ints))
              | inr stops ↦ inr (λ so. stops (subst (λ x. HoldsAt (IsSo (x +ℤ pos 1)) xs at) same (λ d. so at d inside)))
            ])
            (λ later. let same : new.to ≡ ticks.to = omega (arith, ints, clamps) in
            elim round.ends [
              | inl all ↦ inl (same ∙ all)
              | inr stops ↦ inr (λ so. stops (subst (λ x. All (IsSo (x +ℤ pos 1)) xs) same so))
            ]);
        count = omega arith;
        place = λ any. next_inside (length xs) at next inside on back;
      }

  -- no tick of the window fits where none of what is left is free for an element
  pub none_left : (rest ticks : Window) (known at : ℕ) → known < length xs → IsRound IsSo xs within rest ticks known at → ((tick : ℤ) → Holds rest tick → ¬ HoldsAt (IsSo tick) xs at) → (tick : ℤ) → Holds within tick → ¬ All (IsSo tick) xs
  none_left rest ticks known at more round none tick held =
      let inside : at < length xs = round.place (omega arith) in
      let low = held.0 in let high = held.1 in let whole = round.to in
      by_lt_z tick rest.from
      (λ before so. round.before tick low before so)
      (λ behind so. none tick (behind, omega (arith, ints)) (λ d. so at d inside))

  -- an element is free behind the first ticks, so that none of them fits, and the round begins with it
  pub round_anew : (rest ticks here left : Window) (known at next : ℕ) → known < length xs → IsRound IsSo xs within rest ticks known at → IsNextWindow (λ tick. HoldsAt (IsSo tick) xs at) rest here → left.from ≡ here.from → left.to ≡ rest.to → (at + 1 < length xs → next ≡ at + 1) → (at + 1 ≡ length xs → next ≡ 0) → IsRound IsSo xs within left here 1 next
  round_anew rest ticks here left known at next more round free from to on back =
      let inside : at < length xs = round.place (omega arith) in
      let low = round.from in let whole = round.to in
      let later = free.from in let lasts = free.ticks in let until = free.to in
      record {
        from = omega (arith, ints);
        to = to ∙ whole;
        before = λ tick low early. by_lt_z tick rest.from
            (λ before so. round.before tick low before so)
            (λ behind so. free.before tick behind (omega (arith, ints)) (λ d. so at d inside));
        first = sym from;
        some = lasts;
        last = omega (arith, ints);
        so = λ k d is_in among tick held. elim (cases_eq k at) [
          | inl same ↦ subst (λ q. IsSo tick (get_or xs q d)) (sym same) (free.so tick held d)
          | inr other ↦ elim (among_before (length xs) 0 at next k inside is_in other on back among) [
            | inl here ↦ let below = here.0 in let above = here.1 in absurd (omega arith)
            | inr past ↦ absurd (omega arith)
          ]
        ];
        ends = elim free.ends [
          | inl all ↦ inl (all ∙ whole)
          | inr stops ↦ inr (λ so. stops (λ d. so at d inside))
        ];
        count = omega arith;
        place = λ any. next_inside (length xs) at next inside on back;
      }

  pub round_is : (rest left ticks new : Window) (known more at : ℕ) → left ≡ rest → new ≡ ticks → more ≡ known → IsRound IsSo xs within rest ticks known at → IsRound IsSo xs within left new more at
  round_is rest left ticks new known more at rest_is ticks_is known_is round =
      subst (λ w. IsRound IsSo xs within w new more at) (sym rest_is)
      (subst (λ w. IsRound IsSo xs within rest w more at) (sym ticks_is)
      (subst (λ n. IsRound IsSo xs within rest ticks n at) (sym known_is) round))

-- what is left of ticks, and of elements at each of them, gets less with the ticks
pub less_gap : (gap more width done left : ℕ) → gap < more → done < width → gap * width + done < more * width + left
less_gap gap more width done left fewer fits =
    let step : gap * width + done < more * width = subst (λ n. gap * width + done < n) (mul_comm width more) (mul-add-lt gap width done more fewer fits) in
    omega arith

-- an element more leaves less of the elements, and of the ticks as much
pub less_count : (end : ℤ) (rest left : Window) (count known more : ℕ) → left ≡ rest → more ≡ known + 1 → known < count → int_gap left.from end * (count + 1) + (count - more) < int_gap rest.from end * (count + 1) + (count - known)
less_count end rest left count known more rest_is more_is fits =
    subst (λ (w : Window). int_gap w.from end * (count + 1) + (count - more) < int_gap rest.from end * (count + 1) + (count - known)) (sym rest_is) (omega arith)

-- ticks that are passed over leave less of the ticks
pub less_rest : (end : ℤ) (rest left : Window) (count known more : ℕ) → rest.from <ℤ left.from → rest.from <ℤ end → int_gap left.from end * (count + 1) + (count - more) < int_gap rest.from end * (count + 1) + (count - known)
less_rest end rest left count known more later before = less_gap _ _ (count + 1) _ _ (gap_smaller rest.from left.from end later before) (omega arith)
