-- What the spans of a zone, in order, say about the first that ends after a claim begins.
use Rattle.std.proofs.Common.{◌≡◌, ℕ, ◌+◌, ◌<◌, ◌≤◌, ◌<ℤ◌, ◌≤ℤ◌, ℤ, ◌∙◌, List, length, get_or, sym, subst, refl, inl, inr, arith}
use Rattle.std.specs.Prelude.{◌+ℤ◌, ◌-ℤ◌, pos}
use Rattle.std.specs.Int.{int_min}
use Rattle.std.specs.List.{AllWithin}
use Rattle.std.proofs.lemmas.Bool.{cases_eq, cases_order}
use Rattle.std.proofs.lemmas.Int.{by_lt_z, ints, clamps}
use Rattle.rail_types.specs.declared.entries.Owner.TheVariants.{Base}
use Rattle.rail_types.specs.declared.paths.Claim.{Claim}
use Rattle.rail_types.specs.declared.paths.Span.{Span}
use Rattle.rail_types.specs.Occupation.{HeldClaim}
use Rattle.free_windows.specs.Free.{Holds, IsFreeOf}
use Rattle.rail_types.specs.declared.paths.Window.{Window}
use Rattle.rail_types.specs.Occupation.{HasTicks}
use Rattle.occupation_book.specs.Held.{AreInOrder}
use Rattle.free_windows.specs.Starts.{IsNextWindow}

-- some claim, which stands past the end of a list of claims
abbrev pub a_claim : Claim → HeldClaim
a_claim claim = (claim, Base 0)

-- a claim that is moved to a tick meets a span that begins before it ends and ends after it begins
pub blocked_by : (kept : List HeldClaim) (piece : Claim) → AreInOrder piece.zone kept → (at : ℕ) (tick : ℤ) (other : HeldClaim) → at < length kept → (get_or kept at other).0.span.from <ℤ (tick +ℤ piece.span.to) → (tick +ℤ piece.span.from) <ℤ (get_or kept at other).0.span.to → ¬ IsFreeOf kept piece tick
blocked_by kept piece zone at tick other within begun ends free = free at other within (zone.on_zone at other within, (begun, ends))

module _ (kept : List HeldClaim) (piece : Claim) (first : ℤ) (at : ℕ) (zone : AreInOrder piece.zone kept) (before : AllWithin (λ one. one.0.span.to ≤ℤ (first +ℤ piece.span.from)) kept 0 at) (after : AllWithin (λ one. (first +ℤ piece.span.from) <ℤ one.0.span.to) kept at (length kept)) where
  -- the claim is free where it ends before the span at the place begins
  pub free_before_the_next : (tick : ℤ) → first ≤ℤ tick → ((other : HeldClaim) → at < length kept → (tick +ℤ piece.span.to) ≤ℤ (get_or kept at other).0.span.from) → IsFreeOf kept piece tick
  free_before_the_next tick later early k other within overlap =
      let begun = overlap.1.0 in
      let ends = overlap.1.1 in
      elim (cases_order k at) [
        | inl same ↦ let here = early other (omega arith) in let there = subst (λ q. (get_or kept q other).0.span.from <ℤ (tick +ℤ piece.span.to)) same begun in omega (arith, ints)
        | inr differs ↦ elim differs [
          | inl ahead ↦ let past = before k other (omega arith) ahead in omega (arith, ints)
          | inr behind ↦ let here = early other (omega arith) in let ordered = zone.sorted at k other behind within in let lasts = zone.ticks at other (omega arith) in omega (arith, ints)
        ]
      ]

-- `rest` is left of the window behind ticks at which the claim is not free, and the spans that end by its begin at the
-- first tick of it are those before the place
pub record IsRest (kept : List HeldClaim) (piece : Claim) (within rest : Window) (at : ℕ) : Type 0 where
  pub from : within.from ≤ℤ rest.from
  pub some : rest.from ≤ℤ rest.to
  pub to : rest.to ≡ within.to
  pub before : (tick : ℤ) → within.from ≤ℤ tick → tick <ℤ rest.from → ¬ IsFreeOf kept piece tick
  pub ended : AllWithin (λ one. one.0.span.to ≤ℤ (rest.from +ℤ piece.span.from)) kept 0 at
  pub lasts : AllWithin (λ one. (rest.from +ℤ piece.span.from) <ℤ one.0.span.to) kept at (length kept)

-- before a step, the whole window is left
pub whole_rest : (kept : List HeldClaim) (piece : Claim) (within : Window) (at : ℕ) → within.from ≤ℤ within.to → (start : ℤ) → start ≡ (within.from +ℤ piece.span.from) → AllWithin (λ one. one.0.span.to ≤ℤ start) kept 0 at → AllWithin (λ one. start <ℤ one.0.span.to) kept at (length kept) → IsRest kept piece within within at
whole_rest kept piece within at some start start_is ended lasts = record {
  from = omega (arith, ints);
  some = some;
  to = refl;
  before = λ tick low early. absurd (omega (arith, ints));
  ended = λ k other low high. subst (λ tick. (get_or kept k other).0.span.to ≤ℤ tick) start_is (ended k other low high);
  lasts = λ k other low high. subst (λ tick. tick <ℤ (get_or kept k other).0.span.to) start_is (lasts k other low high);
}

module _ (kept : List HeldClaim) (piece : Claim) (within rest : Window) (at : ℕ) (zone : AreInOrder piece.zone kept) (ticks : HasTicks piece.span) (is : IsRest kept piece within rest at) where
  -- no span comes any more
  pub free_to_the_end : length kept ≤ at → IsNextWindow (IsFreeOf kept piece) within rest
  free_to_the_end past = let to = is.to in record {
    from = is.from;
    ticks = is.some;
    to = omega (arith, ints);
    before = is.before;
    so = λ tick held. free_before_the_next kept piece rest.from at zone is.ended is.lasts tick held.0 (λ other inside. absurd (omega arith));
    ends = inl to;
  }

  -- the span at the place
  module _ (next : Span) (inside : at < length kept) (here : (other : HeldClaim) → next ≡ (get_or kept at other).0.span) where
    one : HeldClaim
    one = a_claim piece

    -- the claim meets the span at a tick, where it begins before it ends and ends after it begins
    meets : (tick : ℤ) → next.from <ℤ (tick +ℤ piece.span.to) → (tick +ℤ piece.span.from) <ℤ next.to → ¬ IsFreeOf kept piece tick
    meets tick begun lasts = blocked_by kept piece zone at tick one inside
        (subst (λ (span : Span). span.from <ℤ (tick +ℤ piece.span.to)) (here one) begun)
        (subst (λ (span : Span). (tick +ℤ piece.span.from) <ℤ span.to) (here one) lasts)

    lasts_on : (rest.from +ℤ piece.span.from) <ℤ next.to
    lasts_on = subst (λ (span : Span). (rest.from +ℤ piece.span.from) <ℤ span.to) (sym (here one)) (is.lasts at one (omega arith) inside)

    has_ticks : HasTicks next
    has_ticks = subst HasTicks (sym (here one)) (zone.ticks at one inside)

    -- it begins late enough, so that the claim is free until then
    pub free_to_the_next : (until : Window) → until.from ≡ rest.from → until.to ≡ int_min rest.to (next.from -ℤ piece.span.to) → (rest.from +ℤ piece.span.to) ≤ℤ next.from → IsNextWindow (IsFreeOf kept piece) within until
    free_to_the_next until from to late = let first = is.from in let some = is.some in let last = is.to in record {
      from = omega (arith, ints);
      ticks = omega (arith, ints, clamps);
      to = omega (arith, ints, clamps);
      before = λ tick low early. is.before tick low (omega (arith, ints));
      so = λ tick held. let high = held.1 in let low = held.0 in free_before_the_next kept piece rest.from at zone is.ended is.lasts tick (omega (arith, ints)) (λ other _. subst (λ (span : Span). (tick +ℤ piece.span.to) ≤ℤ span.from) (here other) (omega (arith, ints, clamps)));
      ends = let lasts = has_ticks in by_lt_z (next.from -ℤ piece.span.to) rest.to
          (λ early. inr (meets (until.to +ℤ pos 1) (omega (arith, ints, clamps)) (omega (arith, ints, clamps))))
          (λ late. inl (omega (arith, ints, clamps)));
    }

    -- it begins before the claim would end, so that the claim is not free before the span has ended
    module _ (begun : next.from <ℤ (rest.from +ℤ piece.span.to)) (left : Window) (from : left.from ≡ (next.to -ℤ piece.span.from)) where
      taken : (tick : ℤ) → within.from ≤ℤ tick → tick <ℤ left.from → ¬ IsFreeOf kept piece tick
      taken tick low early = by_lt_z tick rest.from
          (λ before. is.before tick low before)
          (λ behind. meets tick (omega (arith, ints)) (omega (arith, ints)))

      pub none_behind : left.to ≡ rest.to → left.to <ℤ left.from → (tick : ℤ) → Holds within tick → ¬ IsFreeOf kept piece tick
      none_behind to past tick held = let high = held.1 in let last = is.to in taken tick held.0 (omega (arith, ints))

      pub rest_behind : left.to ≡ rest.to → left.from ≤ℤ left.to → IsRest kept piece within left (at + 1)
      rest_behind to some = let first = is.from in let lasts = lasts_on in record {
        from = omega (arith, ints);
        some = some;
        to = to ∙ is.to;
        before = taken;
        ended = λ k other low high. elim (cases_eq k at) [
          | inl same ↦ let ends : (get_or kept at other).0.span.to ≤ℤ (left.from +ℤ piece.span.from) = subst (λ (span : Span). span.to ≤ℤ (left.from +ℤ piece.span.from)) (here other) (omega (arith, ints)) in
              subst (λ q. (get_or kept q other).0.span.to ≤ℤ (left.from +ℤ piece.span.from)) (sym same) ends
          | inr differs ↦ let past = is.ended k other low (omega arith) in omega (arith, ints)
        ];
        lasts = λ k other low high.
            let ordered : next.to ≤ℤ (get_or kept k other).0.span.from = subst (λ (span : Span). span.to ≤ℤ (get_or kept k other).0.span.from) (sym (here other)) (zone.sorted at k other (omega arith) high) in
            let some_ticks = zone.ticks k other high in
            omega (arith, ints);
      }
