use Rattle.std.proofs.Common.{rules, ◌≡◌, ◌+◌, ◌<◌, ℕ, length, sym, subst, ap}
use Rattle.std.specs.Prelude.{ℤ, ◌<ℤ◌, ◌≤ℤ◌}
use Rattle.std.proofs.lemmas.Int.{by_lt_z}
use Rattle.rail_types.specs.declared.paths.Span.{Span}
use Rattle.capacity_406.specs.Telling.{ends_at}
use Rattle.capacity_406.proofs.Rows.{last_here, last_kept}
use Rattle.capacity_406.proofs.reports.last_to_end.Goals as goal
use Rattle.capacity_406.proofs.reports.last_to_end.Goals.{then-ends_before, else-ends_before}

pub loop-train-preserved : goal.loop-train-preserved
loop-train-preserved c =
    let end : ℕ → ℤ = ends_at c.args.firsts.now c.args.shifts.now in
    let one : c.span_at-so_far.result.to ≡ end c.loop-train.last = ap (λ (span : Span). span.to) c.span_at-so_far.ensures in
    let other : c.span_at.result.to ≡ end c.loop-train.train = ap (λ (span : Span). span.to) c.span_at.ensures in
    elim c.if-ends_before.branch [
      | then-ends_before w ↦
          let less : c.span_at-so_far.result.to <ℤ c.span_at.result.to = search (rules, w.if-ends_before.ensures) in
          let so : end c.loop-train.last <ℤ end c.loop-train.train = subst (λ n. n <ℤ end c.loop-train.train) one (subst (λ n. c.span_at-so_far.result.to <ℤ n) other less) in
          record {
            bound = subst (λ n. n < length c.args.firsts.now) (sym w.last-is) c.loop-train-test.true;
            last = subst (λ last. (k : ℕ) → k < c.loop-train.train + 1 → end k ≤ℤ end last) (sym w.last-is) (last_here end c.loop-train.train c.loop-train.last c.loop-train.invariant.last so);
          }
      | else-ends_before w ↦
          let most : c.span_at.result.to ≤ℤ c.span_at-so_far.result.to = by_lt_z c.span_at-so_far.result.to c.span_at.result.to (λ less. absurd (search (rules, c.ends_before.ensures.1 less))) (λ most. most) in
          let so : end c.loop-train.train ≤ℤ end c.loop-train.last = subst (λ n. n ≤ℤ end c.loop-train.last) other (subst (λ n. c.span_at.result.to ≤ℤ n) one most) in
          record {
            bound = subst (λ n. n < length c.args.firsts.now) (sym w.last-is) c.loop-train.invariant.bound;
            last = subst (λ last. (k : ℕ) → k < c.loop-train.train + 1 → end k ≤ℤ end last) (sym w.last-is) (last_kept end c.loop-train.train c.loop-train.last c.loop-train.invariant.last so);
          }
    ]
