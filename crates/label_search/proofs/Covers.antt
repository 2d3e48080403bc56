-- Labels that have each tick that is seen, as they grow.
use Rattle.std.proofs.Common.{◌≡◌, ◌⊎◌, ℕ, List, [], ◌∷◌, ◌++◌, Bool, true, false, set, sym, subst, ap, ◌∙◌, inl, inr, refl, arith, append-nil, append_assoc}
use Rattle.std.specs.Prelude.{ℤ}
use Rattle.std.proofs.lemmas.List.Quantifiers.{Any-push}
use Rattle.std.proofs.lemmas.List.Elements.{All-nil, All-append, All-weaker, All-cons, All-set}
use Rattle.std.proofs.lemmas.Int.{ints, by_lt_z}
use Rattle.rail_types.specs.declared.paths.Span.{Span}
use Rattle.rail_types.specs.Occupation.{Overlap}
use Rattle.label_search.specs.declared.labels.Label.{Label}
use Rattle.label_search.specs.declared.seen.SeenPlace.{SeenPlace}
use Rattle.free_windows.specs.Free.{Holds, moved}
use Rattle.label_search.specs.Labels.{IsUnseen, IsReached, IsCovered, IsCoveredAt, IsGrown, AreCovered, one_tick}
use Rattle.label_search.proofs.Anys.{any_left}

pub grown_none : (IsSo : Label → Type 0) (old : List Label) → IsGrown IsSo old old
grown_none IsSo old = ([], sym (append-nil old), All-nil IsSo)

pub grown_one : (IsSo : Label → Type 0) (old new : List Label) (label : Label) → new ≡ old ++ label ∷ [] → IsSo label → IsGrown IsSo old new
grown_one IsSo old new label is so = (label ∷ [], is, All-cons IsSo label [] so (All-nil IsSo))

pub grown_more : (IsSo : Label → Type 0) (old middle new : List Label) → IsGrown IsSo old middle → IsGrown IsSo middle new → IsGrown IsSo old new
grown_more IsSo old middle new first second =
    (first.0 ++ second.0, second.1 ∙ (ap (λ labels. labels ++ second.0) first.1 ∙ append_assoc old first.0 second.0), All-append IsSo first.0 second.0 first.2 second.2)

pub grown_weaker : (IsSo OrSo : Label → Type 0) (old new : List Label) → ((label : Label) → IsSo label → OrSo label) → IsGrown IsSo old new → IsGrown OrSo old new
grown_weaker IsSo OrSo old new weaker grown = (grown.0, grown.1, All-weaker IsSo OrSo weaker grown.0 grown.2)

pub reached_more : (IsSo : Label → Type 0) (old new : List Label) (place : ℕ) (ready : Bool) (tick : ℤ) → IsGrown IsSo old new → IsReached old place ready tick → IsReached new place ready tick
reached_more IsSo old new place ready tick grown reached =
    subst (λ labels. IsReached labels place ready tick) (sym grown.1) (any_left (λ label. (label.place ≡ place) × (label.ready ≡ ready) × Holds label.ticks tick) old grown.0 reached)

pub covered_more : (IsSo : Label → Type 0) (old new : List Label) (place : ℕ) (ready : Bool) (spans : List Span) → IsGrown IsSo old new → IsCovered old place ready spans → IsCovered new place ready spans
covered_more IsSo old new place ready spans grown covered tick = elim (covered tick) [
  | inl unseen ↦ inl unseen
  | inr reached ↦ inr (reached_more IsSo old new place ready tick grown reached)
]

pub covered_kept : (labels : List Label) (label : Label) (old new : List Span) → IsCovered labels label.place label.ready old → ((tick : ℤ) → IsUnseen old tick → ¬ Holds label.ticks tick → IsUnseen new tick) → IsCovered (labels ++ label ∷ []) label.place label.ready new
covered_kept labels label old new covered others tick =
    let more : IsUnseen old tick ⊎ IsReached (labels ++ label ∷ []) label.place label.ready tick = covered_more (λ one. one ≡ label) labels (labels ++ label ∷ []) label.place label.ready old (grown_one (λ one. one ≡ label) labels (labels ++ label ∷ []) label refl refl) covered tick in
    elim more [
      | inr reached ↦ inr reached
      | inl unseen ↦ by_lt_z tick label.ticks.from
          (λ early. inl (others tick unseen (λ held. let low = held.0 in absurd (omega (arith, ints)))))
          (λ low. by_lt_z label.ticks.to tick
          (λ late. inl (others tick unseen (λ held. let high = held.1 in absurd (omega (arith, ints)))))
          (λ high. inr (Any-push (λ one. (one.place ≡ label.place) × (one.ready ≡ label.ready) × Holds one.ticks tick) labels label (refl, refl, (low, high)))))
    ]

pub reached_when_seen : (labels : List Label) (place : ℕ) (ready : Bool) (spans : List Span) (tick : ℤ) → IsCovered labels place ready spans → ¬ IsUnseen spans tick → IsReached labels place ready tick
reached_when_seen labels place ready spans tick covered seen = elim (covered tick) [
  | inl unseen ↦ absurd (seen unseen)
  | inr reached ↦ reached
]

pub covered_none : (labels : List Label) (place : ℕ) (ready : Bool) → IsCovered labels place ready []
covered_none labels place ready tick = inl (All-nil (λ one. ¬ Overlap one (moved tick one_tick).span))

pub covered_new : (labels : List Label) (seen : SeenPlace) → seen.arrived ≡ [] → seen.ready ≡ [] → IsCoveredAt labels seen
covered_new labels seen arrived ready = record {
  arrivals = subst (IsCovered labels seen.place false) (sym arrived) (covered_none labels seen.place false);
  readies = subst (IsCovered labels seen.place true) (sym ready) (covered_none labels seen.place true);
}

pub covered_at_more : (IsSo : Label → Type 0) (old new : List Label) → IsGrown IsSo old new → (seen : SeenPlace) → IsCoveredAt old seen → IsCoveredAt new seen
covered_at_more IsSo old new grown seen covered = record {
  arrivals = covered_more IsSo old new seen.place false seen.arrived grown covered.arrivals;
  readies = covered_more IsSo old new seen.place true seen.ready grown covered.readies;
}

-- the places that are seen, one of them changed
pub all_covered_with : (IsSo : Label → Type 0) (old new : List Label) (places : List SeenPlace) (at : ℕ) (seen : SeenPlace) → AreCovered old places → IsGrown IsSo old new → IsCoveredAt new seen → AreCovered new (set places at seen)
all_covered_with IsSo old new places at seen covered grown is =
    All-set (λ one. IsCoveredAt new one) places at seen is (All-weaker (λ one. IsCoveredAt old one) (λ one. IsCoveredAt new one) (covered_at_more IsSo old new grown) places covered)

-- the ticks of one place, changed
module _ (labels : List Label) (seen : SeenPlace) (covered : IsCoveredAt labels seen) (place : ℕ) (at : seen.place ≡ place) (is_ready : Bool) where
  pub covered_ready : is_ready ≡ true → IsCovered labels place is_ready seen.ready
  covered_ready is = subst (λ b. IsCovered labels place b seen.ready) (sym is) (subst (λ p. IsCovered labels p true seen.ready) at covered.readies)

  pub covered_arrived : is_ready ≡ false → IsCovered labels place is_ready seen.arrived
  covered_arrived is = subst (λ b. IsCovered labels place b seen.arrived) (sym is) (subst (λ p. IsCovered labels p false seen.arrived) at covered.arrivals)

  module _ (IsSo : Label → Type 0) (more : List Label) (grown : IsGrown IsSo labels more) (spans : List Span) (new : IsCovered more place is_ready spans) where
    pub covered_with_ready : is_ready ≡ true → IsCoveredAt more (record { place = seen.place; arrived = seen.arrived; ready = spans })
    covered_with_ready is = record {
      arrivals = covered_more IsSo labels more seen.place false seen.arrived grown covered.arrivals;
      readies = subst (λ p. IsCovered more p true spans) (sym at) (subst (λ b. IsCovered more place b spans) is new);
    }

    pub covered_with_arrived : is_ready ≡ false → IsCoveredAt more (record { place = seen.place; arrived = spans; ready = seen.ready })
    covered_with_arrived is = record {
      arrivals = subst (λ p. IsCovered more p false spans) (sym at) (subst (λ b. IsCovered more place b spans) is new);
      readies = covered_more IsSo labels more seen.place true seen.ready grown covered.readies;
    }
