use Rattle.std.proofs.Common.{◌≡◌, ◌≤ℤ◌, ◌<ℤ◌, ℤ, List, length, insert, sym, subst}
use Rattle.std.specs.List.{AllWithin}
use Rattle.rail_types.specs.declared.paths.Span.{Span}
use Rattle.free_windows.specs.Free.{Holds}
use Rattle.label_search.specs.Spans.{IsZone}
use Rattle.label_search.specs.Labels.{IsUnseen}
use Rattle.label_search.proofs.SeenTicks.{zone_with_it, others_with_it, zone_with_longer, others_with_longer}
use Rattle.label_search.proofs.seen.Seen.insert.Goals as goal

pub invariant_of-self : goal.invariant_of-self
invariant_of-self c =
    let unseen : (tick : ℤ) → Holds c.args.ticks.now tick → IsUnseen c.self.inside.spans.items tick = λ tick held. subst (λ spans. IsUnseen spans tick) (sym c.self.view_is) (c.requires.unseen tick held) in
    zone_with_longer c.self.inside.spans.items c.args.ticks.now c.span_of-span.result c.first_ending_after-at.result c.self.invariant c.requires.near c.requires.some c.span_of-span.ensures.from c.span_of-span.ensures.to unseen
    (subst (λ spans. AllWithin (λ one. one.to ≤ℤ c.span_of-span.result.from) spans 0 c.first_ending_after-at.result) c.as_slice.ensures.value c.first_ending_after-at.ensures.before)
    (subst (λ spans. AllWithin (λ one. c.span_of-span.result.from <ℤ one.to) spans c.first_ending_after-at.result (length spans)) c.as_slice.ensures.value c.first_ending_after-at.ensures.after)
    c.lengthens.new.spans.items (c.lengthens.ensures.longer c.if-lengthens.true)

pub returns-then-lengthens : goal.returns-then-lengthens
returns-then-lengthens c =
    let unseen : (tick : ℤ) → Holds c.args.ticks.now tick → IsUnseen c.self.inside.spans.items tick = λ tick held. subst (λ spans. IsUnseen spans tick) (sym c.self.view_is) (c.requires.unseen tick held) in
    record {
      others = λ tick here apart. others_with_longer c.self.inside.spans.items c.args.ticks.now c.span_of-span.result c.first_ending_after-at.result c.self.invariant c.requires.near c.requires.some c.span_of-span.ensures.from c.span_of-span.ensures.to unseen
          (subst (λ spans. AllWithin (λ one. one.to ≤ℤ c.span_of-span.result.from) spans 0 c.first_ending_after-at.result) c.as_slice.ensures.value c.first_ending_after-at.ensures.before)
          (subst (λ spans. AllWithin (λ one. c.span_of-span.result.from <ℤ one.to) spans c.first_ending_after-at.result (length spans)) c.as_slice.ensures.value c.first_ending_after-at.ensures.after)
          c.lengthens.new.spans.items (c.lengthens.ensures.longer c.if-lengthens.true) tick (subst (λ spans. IsUnseen spans tick) (sym c.self.view_is) here) apart;
    }

pub invariant_of-self-2 : goal.invariant_of-self-2
invariant_of-self-2 c =
    let same : c.lengthens.new.spans.items ≡ c.self.inside.spans.items = c.lengthens.ensures.same c.if-lengthens.false in
    let unseen : (tick : ℤ) → Holds c.args.ticks.now tick → IsUnseen c.self.inside.spans.items tick = λ tick held. subst (λ spans. IsUnseen spans tick) (sym c.self.view_is) (c.requires.unseen tick held) in
    subst IsZone (sym c.in_ok-insert.ensures.items) (subst (λ (all : List Span). IsZone (insert all c.first_ending_after-at.result c.span_of-span.result)) (sym same) (zone_with_it c.self.inside.spans.items c.args.ticks.now c.span_of-span.result c.first_ending_after-at.result c.self.invariant c.requires.near c.requires.some c.span_of-span.ensures.from c.span_of-span.ensures.to unseen
    (subst (λ spans. AllWithin (λ one. one.to ≤ℤ c.span_of-span.result.from) spans 0 c.first_ending_after-at.result) c.as_slice.ensures.value c.first_ending_after-at.ensures.before)
    (subst (λ spans. AllWithin (λ one. c.span_of-span.result.from <ℤ one.to) spans c.first_ending_after-at.result (length spans)) c.as_slice.ensures.value c.first_ending_after-at.ensures.after)))

pub returns : goal.returns
returns c =
    let same : c.lengthens.new.spans.items ≡ c.self.inside.spans.items = c.lengthens.ensures.same c.if-lengthens.false in
    let unseen : (tick : ℤ) → Holds c.args.ticks.now tick → IsUnseen c.self.inside.spans.items tick = λ tick held. subst (λ spans. IsUnseen spans tick) (sym c.self.view_is) (c.requires.unseen tick held) in
    record {
      others = λ tick here apart. subst (λ spans. IsUnseen spans tick) (sym c.in_ok-insert.ensures.items) (subst (λ (all : List Span). IsUnseen (insert all c.first_ending_after-at.result c.span_of-span.result) tick) (sym same) (others_with_it c.self.inside.spans.items c.args.ticks.now c.span_of-span.result c.first_ending_after-at.result c.self.invariant c.requires.near c.requires.some c.span_of-span.ensures.from c.span_of-span.ensures.to unseen
          (subst (λ spans. AllWithin (λ one. one.to ≤ℤ c.span_of-span.result.from) spans 0 c.first_ending_after-at.result) c.as_slice.ensures.value c.first_ending_after-at.ensures.before)
          (subst (λ spans. AllWithin (λ one. c.span_of-span.result.from <ℤ one.to) spans c.first_ending_after-at.result (length spans)) c.as_slice.ensures.value c.first_ending_after-at.ensures.after)
          tick (subst (λ spans. IsUnseen spans tick) (sym c.self.view_is) here) apart));
    }
