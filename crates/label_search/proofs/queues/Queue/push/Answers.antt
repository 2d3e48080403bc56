use Rattle.std.proofs.Common.{subst, sym}
use Rattle.std.specs.Prelude.{pos, ◌+ℤ◌, ◌≤ℤ◌}
use Rattle.label_search.proofs.queues.Queue.push.Goals as goal

pub put-requires-clause-room : goal.put-requires-clause-room
put-requires-clause-room c = c.in_ok-reach.ensures.room

pub put-requires-clause-behind : goal.put-requires-clause-behind
put-requires-clause-behind c some = subst (λ start. (start +ℤ pos c.bucket_of-at.result) ≤ℤ c.args.due.now.tick) (sym c.reach.ensures.start) (c.bucket_of-at.ensures some)
