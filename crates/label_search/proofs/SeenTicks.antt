-- Spans of ticks, with a window more.
use Rattle.std.proofs.Common.{◌≡◌, ℕ, ◌<ℤ◌, ◌≤ℤ◌, ℤ, List, ◌∷◌, length, get_or, insert, sym, subst, arith, IsPermutation}
use Rattle.std.specs.Prelude.{◌+ℤ◌, pos}
use Rattle.std.specs.List.{AllWithin}
use Rattle.std.proofs.lemmas.Int.{by_lt_z, ints}
use Rattle.std.proofs.lemmas.List.Elements.{All-cons, All-set}
use Rattle.std.proofs.lemmas.List.Sorted.{All-permutation, IsPermutation-insert}
use Rattle.rail_types.specs.declared.paths.Span.{Span}
use Rattle.rail_types.specs.declared.paths.Window.{Window}
use Rattle.rail_types.specs.Occupation.{HasTicks, Overlap}
use Rattle.rail_types.specs.declared.limits.TheConstants.{FAR_TICK}
use Rattle.free_windows.specs.Free.{Holds, moved}
use Rattle.label_search.specs.Longer.{IsLonger}
use Rattle.label_search.specs.Spans.{IsZone}
use Rattle.rail_types.specs.Limits.{IsNear}
use Rattle.label_search.specs.Labels.{IsUnseen, one_tick}
use Rattle.label_search.proofs.Pairs.{all_pairs_insert, all_pairs_set}

module _ (spans : List Span) (ticks : Window) (span : Span) (at : ℕ) (zone : IsZone spans) (near : IsNear ticks.from × (ticks.to <ℤ FAR_TICK)) (some : ticks.from ≤ℤ ticks.to) (from : span.from ≡ ticks.from) (to : span.to ≡ (ticks.to +ℤ pos 1)) (unseen : (tick : ℤ) → Holds ticks tick → IsUnseen spans tick) (before : AllWithin (λ one. one.to ≤ℤ span.from) spans 0 at) (after : AllWithin (λ one. span.from <ℤ one.to) spans at (length spans)) where
  -- a span that ends after the new one begins begins when that has ended: else they would share a tick
  later_ones : AllWithin (λ one. span.to ≤ℤ one.from) spans at (length spans)
  later_ones k other low high =
      let ends = after k other low high in
      let lasts = zone.ticks k other high in
      by_lt_z (get_or spans k other).from span.to
      (λ early. by_lt_z (get_or spans k other).from span.from
      (λ behind. absurd (unseen span.from (omega (arith, ints), omega (arith, ints)) k other high (omega (arith, ints), omega (arith, ints))))
      (λ ahead. absurd (unseen (get_or spans k other).from (omega (arith, ints), omega (arith, ints)) k other high (omega (arith, ints), omega (arith, ints)))))
      (λ late. late)

  new_span : IsPermutation (span ∷ spans) (insert spans at span)
  new_span = IsPermutation-insert spans at span

  pub zone_with_it : IsZone (insert spans at span)
  zone_with_it = record {
    near = All-permutation (λ one. IsNear one.from × IsNear one.to) _ _ new_span (All-cons (λ one. IsNear one.from × IsNear one.to) span spans ((omega (arith, ints, near), omega (arith, ints, near)), (omega (arith, ints, near), omega (arith, ints, near))) zone.near);
    ticks = All-permutation HasTicks _ _ new_span (All-cons HasTicks span spans (omega (arith, ints)) zone.ticks);
    sorted = all_pairs_insert (λ one later. one.to ≤ℤ later.from) spans at span zone.sorted before later_ones;
  }

  pub others_with_it : (tick : ℤ) → IsUnseen spans tick → ¬ Holds ticks tick → IsUnseen (insert spans at span) tick
  others_with_it tick here apart = All-permutation (λ one. ¬ Overlap one (moved tick one_tick).span) _ _ new_span
      (All-cons (λ one. ¬ Overlap one (moved tick one_tick).span) span spans (λ overlap. let begun = overlap.0 in let ends = overlap.1 in apart (omega (arith, ints), omega (arith, ints))) here)

  -- the span before it made longer
  module _ (new : List Span) (longer : IsLonger spans at span new) where
    pub zone_with_longer : IsZone new
    zone_with_longer =
        let k = longer.before in
        let next = longer.next in
        let touches = longer.touches in
        let has : HasTicks longer.one = subst HasTicks (longer.is longer.one) (zone.ticks k longer.one longer.within) in
        let close : IsNear longer.one.from × IsNear longer.one.to = subst (λ s. IsNear s.from × IsNear s.to) (longer.is longer.one) (zone.near k longer.one longer.within) in
        subst IsZone (sym longer.longer) record {
          near = All-set (λ s. IsNear s.from × IsNear s.to) spans k (record { from = longer.one.from; to = span.to }) (close.0, (omega (arith, ints, near), omega (arith, ints, near))) zone.near;
          ticks = All-set HasTicks spans k (record { from = longer.one.from; to = span.to }) (omega (arith, ints)) zone.ticks;
          sorted = all_pairs_set (λ s later. s.to ≤ℤ later.from) spans k (record { from = longer.one.from; to = span.to }) zone.sorted
              (λ j other low high. subst (λ (s : Span). (get_or spans j other).to ≤ℤ s.from) (longer.is other) (zone.sorted j k other high longer.within))
              (λ j other low high. later_ones j other (omega arith) high);
        }

    pub others_with_longer : (tick : ℤ) → IsUnseen spans tick → ¬ Holds ticks tick → IsUnseen new tick
    others_with_longer tick here apart =
        let k = longer.before in
        let touches = longer.touches in
        let free : ¬ Overlap longer.one (moved tick one_tick).span = subst (λ s. ¬ Overlap s (moved tick one_tick).span) (longer.is longer.one) (here k longer.one longer.within) in
        subst (λ all. IsUnseen all tick) (sym longer.longer) (All-set (λ s. ¬ Overlap s (moved tick one_tick).span) spans k (record { from = longer.one.from; to = span.to })
        (λ overlap. let begun = overlap.0 in let ends = overlap.1 in by_lt_z tick span.from
        (λ early. free (omega (arith, ints), omega (arith, ints)))
        (λ late. apart (omega (arith, ints), omega (arith, ints)))) here)
