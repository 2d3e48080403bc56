use Rattle.std.proofs.Common.{take, length, IfSome}
use Rattle.std.specs.List.{All}
use Rattle.signal_blocks.specs.Inside.{AreNearest, IsPost}
use Rattle.signal_blocks.proofs.posts.keep_all.Given as goal

abbrev pub invariant-posts : goal.invariant-posts
invariant-posts l = record {
  nearest : AreNearest (take l.post-index l.posts) l.table;
  limits : All (λ o. IfSome o (IsPost (length l.initial.table))) l.table;
}
