use Rattle.std.proofs.Common.{◌≡◌, ◌<◌, length, sym, subst, ap}
use Rattle.std.specs.Prelude.{pos, ◌+ℤ◌, ◌≤ℤ◌}
use Rattle.label_search.specs.Queues.{IsQueue}
use Rattle.label_search.proofs.Taking.{queue_put}
use Rattle.label_search.proofs.queues.Queue.put.Goals as goal

pub invariant_of-self-2 : goal.invariant_of-self-2
invariant_of-self-2 c =
    let view : c.self.inside.buckets ≡ c.args.self.now.buckets = ap (λ q. q.buckets) c.self.view_is in
    let start : c.self.inside.start ≡ c.args.self.now.start = ap (λ q. q.start) c.self.view_is in
    let within : c.args.at < length c.self.inside.buckets = subst (λ all. c.args.at < length all) (sym view) c.requires.room in
    subst (λ all. IsQueue all c.min-self-inside.result c.self.inside.start) (sym c.in_ok-push.ensures.ok)
    (queue_put c.self.inside.buckets c.self.inside.first c.self.inside.start c.self.invariant c.args.at c.min-self-inside.result c.args.due.now within
    (λ some. subst (λ s. (s +ℤ pos c.args.at) ≤ℤ c.args.due.now.tick) (sym start) (c.requires.behind some)) c.min-self-inside.ensures)
