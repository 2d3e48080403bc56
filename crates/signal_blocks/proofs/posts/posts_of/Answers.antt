use Rattle.std.proofs.Common.{◌≡◌, List, ◌+◌, ◌∷◌, ◌++◌, suc, drop, sym, ap, ◌∙◌, add-one, drop-cons}
use Rattle.rail_types.specs.declared.infra_types.signals.Signal.{Signal}
use Rattle.signal_blocks.specs.declared.posts.Post.{Post}
use Rattle.signal_blocks.specs.Posts.{post_of, posts_of}
use Rattle.signal_blocks.proofs.Growing.{one_more}
use Rattle.signal_blocks.proofs.posts.posts_of.Goals as goal

pub signals-preserved : goal.signals-preserved
signals-preserved c =
    let graph = c.args.graph.now in
    let all = c.args.signals.now in
    let at = c.signals.signal-index in
    let signal = c.signal-item.result in
    let before = c.signals.posts.items in
    let next : drop at all ≡ signal ∷ drop (at + 1) all = rw add-one (drop-cons all at signal c.signals-test.true ∙ ap (λ (one : Signal). one ∷ drop (suc at) all) (sym c.signal-item.is)) in
    record {
      rest = ap (λ (posts : List Post). posts ++ posts_of graph (drop (at + 1) all)) c.in_ok-add_post.ensures.ok ∙ one_more (post_of graph) signal before (drop (at + 1) all) ∙ ap (λ (rest : List Signal). before ++ posts_of graph rest) (sym next) ∙ c.signals.invariant.rest;
      within = c.in_ok-add_post.ensures.within;
    }
