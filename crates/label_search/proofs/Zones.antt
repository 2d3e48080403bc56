-- What the spans of a zone, in order, say about the first that ends after a claim begins.
use Rattle.std.proofs.Common.{◌≡◌, ℕ, ◌<◌, ◌≤◌, ◌<ℤ◌, ◌≤ℤ◌, ℤ, int_le, true, false, List, length, get_or, sym, subst, refl, inl, inr, arith}
use borrow.Author.Differences.{le-true, le-false}
use Rattle.std.specs.Prelude.{◌+ℤ◌, ◌-ℤ◌, pos}
use Rattle.std.specs.Int.{int_min}
use Rattle.std.specs.List.{AllWithin}
use Rattle.std.specs.List.Sorted.{IsPartitionedBy}
use Rattle.std.proofs.lemmas.Bool.{cases_order, cases_Bool}
use Rattle.std.proofs.lemmas.List.{get_or_default}
use Rattle.std.proofs.lemmas.Int.{by_lt_z, ints, clamps}
use Rattle.rail_types.specs.declared.paths.Claim.{Claim}
use Rattle.rail_types.specs.declared.paths.Span.{Span}
use Rattle.label_search.specs.Spans.{IsFreeOf}
use Rattle.rail_types.specs.declared.paths.Window.{Window}
use Rattle.rail_types.specs.Occupation.{HasTicks}
use Rattle.label_search.specs.Spans.{IsZone}
use Rattle.free_windows.specs.Starts.{IsStretch}

-- a test of two ticks, as a fact
pub ended : (a b : ℤ) → int_le a b ≡ true → a ≤ℤ b
ended a b test = let fact = le-true a b test in omega (arith, ints)

pub not_ended : (a b : ℤ) → int_le a b ≡ false → b <ℤ a
not_ended a b test = let fact = le-false a b test in omega (arith, ints)

pub le_true_below : (a b c : ℤ) → a ≤ℤ b → int_le b c ≡ true → int_le a c ≡ true
le_true_below a b c le test = elim (cases_Bool (int_le a c)) [
  | inl passes ↦ passes
  | inr fails ↦ let above = not_ended a c fails in let below = ended b c test in absurd (omega (arith, ints))
]

-- spans in order are parted by whether they have ended at a tick
pub ends_by_tick : (kept : List Span) (tick : ℤ) → IsZone kept → IsPartitionedBy (λ one. int_le one.to tick) kept
ends_by_tick kept tick zone i j other le within test = elim (cases_order i j) [
  | inl same ↦ subst (λ q. int_le (get_or kept q other).to tick ≡ true) (sym same) test
  | inr apart ↦ elim apart [
    | inl before ↦ le_true_below _ _ tick (let ends = zone.sorted i j other before within in let lasts = zone.ticks j other within in omega (arith, ints)) test
    | inr behind ↦ absurd (omega arith)
  ]
]

-- so many spans and those behind them, by whether the last of them has ended
module _ (kept : List Span) (tick : ℤ) (last : ℕ) (one : Span) (zone : IsZone kept) (inside : last < length kept) where
  pub all_ended : (get_or kept last one).to ≤ℤ tick → (k : ℕ) (other : Span) → k ≤ last → (get_or kept k other).to ≤ℤ tick
  all_ended ended_there k other low =
      let there = subst (λ span. span.to ≤ℤ tick) (get_or_default kept last one other inside) ended_there in
      elim (cases_order k last) [
        | inl same ↦ subst (λ q. (get_or kept q other).to ≤ℤ tick) (sym same) there
        | inr differs ↦ elim differs [
          | inl before ↦ let ordered = zone.sorted k last other before inside in let lasts = zone.ticks last other inside in omega (arith, ints)
          | inr behind ↦ absurd (omega arith)
        ]
      ]

  pub none_ended : tick <ℤ (get_or kept last one).to → (k : ℕ) (other : Span) → last ≤ k → k < length kept → tick <ℤ (get_or kept k other).to
  none_ended open_there k other low within =
      let there = subst (λ span. tick <ℤ span.to) (get_or_default kept last one other inside) open_there in
      elim (cases_order k last) [
        | inl same ↦ subst (λ q. tick <ℤ (get_or kept q other).to) (sym same) there
        | inr differs ↦ elim differs [
          | inl before ↦ absurd (omega arith)
          | inr behind ↦ let ordered = zone.sorted last k other behind within in let lasts = zone.ticks k other within in omega (arith, ints)
        ]
      ]

module _ (kept : List Span) (piece : Claim) (first : ℤ) (at : ℕ) (zone : IsZone kept) (before : AllWithin (λ one. one.to ≤ℤ (first +ℤ piece.span.from)) kept 0 at) (after : AllWithin (λ one. (first +ℤ piece.span.from) <ℤ one.to) kept at (length kept)) where
  -- the claim is free where it ends before the span at the place begins
  pub free_before_the_next : (tick : ℤ) → first ≤ℤ tick → ((other : Span) → at < length kept → (tick +ℤ piece.span.to) ≤ℤ (get_or kept at other).from) → IsFreeOf kept piece tick
  free_before_the_next tick later early k other within overlap =
      let begun = overlap.0 in
      let ends = overlap.1 in
      elim (cases_order k at) [
        | inl same ↦ let here = early other (omega arith) in let there = subst (λ q. (get_or kept q other).from <ℤ (tick +ℤ piece.span.to)) same begun in omega (arith, ints)
        | inr differs ↦ elim differs [
          | inl ahead ↦ let past = before k other (omega arith) ahead in omega (arith, ints)
          | inr behind ↦ let here = early other (omega arith) in let ordered = zone.sorted at k other behind within in let lasts = zone.ticks at other (omega arith) in omega (arith, ints)
        ]
      ]

  -- and blocked where it begins before that span ends, and ends after it begins
  pub blocked_by_the_next : (tick : ℤ) (other : Span) → at < length kept → (get_or kept at other).from <ℤ (tick +ℤ piece.span.to) → (tick +ℤ piece.span.from) <ℤ (get_or kept at other).to → ¬ IsFreeOf kept piece tick
  blocked_by_the_next tick other within begun ends free = free at other within (begun, ends)

-- how long it stays so
module _ (kept : List Span) (piece : Claim) (within : Window) (at : ℕ) (zone : IsZone kept) (some : within.from ≤ℤ within.to) (ticks : HasTicks piece.span) (start : ℤ) (start_is : start ≡ (within.from +ℤ piece.span.from)) (before_start : AllWithin (λ one. one.to ≤ℤ start) kept 0 at) (after_start : AllWithin (λ one. start <ℤ one.to) kept at (length kept)) (until : Window) (from : until.from ≡ within.from) where
  before : AllWithin (λ one. one.to ≤ℤ (within.from +ℤ piece.span.from)) kept 0 at
  before k other low high = subst (λ tick. (get_or kept k other).to ≤ℤ tick) start_is (before_start k other low high)

  after : AllWithin (λ one. (within.from +ℤ piece.span.from) <ℤ one.to) kept at (length kept)
  after k other low high = subst (λ tick. tick <ℤ (get_or kept k other).to) start_is (after_start k other low high)

  pub free_to_the_end : length kept ≤ at → IsStretch (IsFreeOf kept piece) within true within
  free_to_the_end past = record {
    from = refl;
    some = some;
    to = omega (arith, ints);
    when_free = λ _ tick held. free_before_the_next kept piece within.from at zone before after tick held.0 (λ other inside. absurd (omega arith));
    ends = λ _. inl refl;
    when_blocked = λ blocked. cc;
  }

  pub free_to_the_next : (next : Span) → at < length kept → ((other : Span) → get_or kept at other ≡ next) → until.to ≡ int_min within.to (next.from -ℤ piece.span.to) → (within.from +ℤ piece.span.to) ≤ℤ next.from → IsStretch (IsFreeOf kept piece) within true until
  free_to_the_next next inside here to late = record {
    from = from;
    some = omega (arith, ints, clamps);
    to = omega (arith, ints, clamps);
    when_free = λ _ tick held. free_before_the_next kept piece within.from at zone before after tick (omega (arith, ints, held.0)) (λ other _. let last = held.1 in subst (λ one. (tick +ℤ piece.span.to) ≤ℤ one.from) (sym (here other)) (omega (arith, ints, clamps)));
    ends = λ _. by_lt_z (next.from -ℤ piece.span.to) within.to
        (λ early. inr (let lasts : HasTicks next = subst HasTicks (here next) (zone.ticks at next inside) in
        blocked_by_the_next kept piece within.from at zone before after (until.to +ℤ pos 1) next inside
        (subst (λ one. one.from <ℤ ((until.to +ℤ pos 1) +ℤ piece.span.to)) (sym (here next)) (omega (arith, ints, clamps)))
        (subst (λ one. ((until.to +ℤ pos 1) +ℤ piece.span.from) <ℤ one.to) (sym (here next)) (omega (arith, ints, clamps)))))
        (λ late. inl (omega (arith, ints, clamps)));
    when_blocked = λ blocked. cc;
  }

  pub blocked_to_its_end : (next : Span) → at < length kept → ((other : Span) → get_or kept at other ≡ next) → until.to ≡ int_min within.to ((next.to -ℤ piece.span.from) -ℤ pos 1) → next.from <ℤ (within.from +ℤ piece.span.to) → IsStretch (IsFreeOf kept piece) within false until
  blocked_to_its_end next inside here to early = record {
    from = from;
    some = let ends = subst (λ one. (within.from +ℤ piece.span.from) <ℤ one.to) (here next) (after at next (omega arith) inside) in omega (arith, ints, clamps);
    to = omega (arith, ints, clamps);
    when_free = λ is_free. cc;
    ends = λ is_free. cc;
    when_blocked = λ _ tick held. let low = held.0 in let high = held.1 in blocked_by_the_next kept piece within.from at zone before after tick next inside
        (subst (λ one. one.from <ℤ (tick +ℤ piece.span.to)) (sym (here next)) (omega (arith, ints)))
        (subst (λ one. (tick +ℤ piece.span.from) <ℤ one.to) (sym (here next)) (omega (arith, ints, clamps)));
  }
