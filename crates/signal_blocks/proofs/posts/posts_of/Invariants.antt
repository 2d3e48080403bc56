use Rattle.std.proofs.Common.{◌≡◌, ◌++◌, ◌*◌, drop, length}
use Rattle.std.specs.List.{All}
use Rattle.signal_blocks.specs.Inside.{IsPost}
use Rattle.signal_blocks.specs.Posts.{posts_of}
use Rattle.signal_blocks.proofs.posts.posts_of.Given as goal

abbrev pub invariant-signals : goal.invariant-signals
invariant-signals l = record {
  rest : l.posts.items ++ posts_of l.graph (drop l.signal-index l.signals) ≡ posts_of l.graph l.signals;
  within : All (IsPost (2 * length l.graph.infra.detectors)) l.posts.items;
}
