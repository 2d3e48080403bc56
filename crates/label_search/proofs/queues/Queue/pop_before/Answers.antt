use Rattle.std.proofs.Common.{◌≡◌, ◌∙◌, ◌<◌, [], length, get_or, sym, subst, ap, arith, inl, inr, Contains}
use Rattle.std.specs.Prelude.{pos, ◌+ℤ◌, ◌≤ℤ◌}
use Rattle.many_stacks.specs.Stacks.{IsTaken}
use Rattle.label_search.specs.Queues.{IsQueue}
use Rattle.label_search.proofs.Taking.{rest, queue_taken, none_due}
use Rattle.label_search.proofs.queues.Queue.pop_before.Goals as goal

pub invariant_of-self-in-Some : goal.invariant_of-self-in-Some
invariant_of-self-in-Some c =
    let within : c.loop-self.self-inside.first < length c.loop-self.self-inside.buckets = omega (arith, c.loop-self-test.true, c.len.ensures) in
    let taken : IsTaken c.loop-self.self-inside.first c.loop-self.self-inside.buckets c.pop.new.self c.in-Some.due = c.in-Some.ensures.some in
    subst (λ all. IsQueue all c.loop-self.self-inside.first c.loop-self.self-inside.start) (sym taken.is)
    (queue_taken c.loop-self.self-inside.buckets c.loop-self.self-inside.first c.loop-self.self-inside.start c.loop-self.invariant.is taken.left c.in-Some.due within taken.was)

pub returns-in-Some-clause-some : goal.returns-in-Some-clause-some
returns-in-Some-clause-some c one waits =
    let within : c.loop-self.self-inside.first < length c.loop-self.self-inside.buckets = omega (arith, c.loop-self-test.true, c.len.ensures) in
    let same : c.loop-self.self-inside.buckets ≡ c.args.self.now.buckets = c.loop-self.invariant.kept ∙ ap (λ q. q.buckets) c.self.view_is in
    let taken : IsTaken c.loop-self.self-inside.first c.loop-self.self-inside.buckets c.pop.new.self c.in-Some.due = c.in-Some.ensures.some in
    elim (rest c.loop-self.self-inside.buckets c.loop-self.self-inside.first c.loop-self.self-inside.start c.loop-self.invariant.is taken.left c.in-Some.due within taken.was
    waits.0 one (subst (λ all. Contains (get_or all waits.0 []) one) (sym same) waits.1)) [
      | inl there ↦ inl (waits.0, subst (λ all. Contains (get_or all waits.0 []) one) (sym taken.is) there)
      | inr gone ↦ inr gone
    ]

pub returns-else-self-end-clause-none : goal.returns-else-self-end-clause-none
returns-else-self-end-clause-none c due waits =
    let same : c.loop-self.self-inside.buckets ≡ c.args.self.now.buckets = c.loop-self.invariant.kept ∙ ap (λ q. q.buckets) c.self.view_is in
    let start = c.loop-self.invariant.start in
    none_due c.loop-self.self-inside.buckets c.loop-self.self-inside.first c.loop-self.self-inside.start c.loop-self.invariant.is c.args.stop.now c.ticks_before.result c.max-end.result
    (λ some. subst (λ s. (s +ℤ pos c.ticks_before.result) ≡ c.args.stop.now) (sym start) (c.ticks_before.ensures.some some))
    (λ none. subst (λ s. c.args.stop.now ≤ℤ s) (sym start) (c.ticks_before.ensures.none none))
    c.max-end.ensures c.if-self-end.false waits.0 due (subst (λ all. Contains (get_or all waits.0 []) due) (sym same) waits.1)
