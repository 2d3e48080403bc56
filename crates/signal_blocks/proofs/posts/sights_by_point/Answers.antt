use Rattle.std.proofs.Common.{rules, ◌≡◌, map, option_map}
use Rattle.signal_blocks.specs.declared.posts.Post.{Post}
use Rattle.signal_blocks.specs.Inside.{AreNearest}
use Rattle.signal_blocks.specs.Posts.{posts_of}
use Rattle.signal_blocks.proofs.Nearest.{sights_are, sights_within}
use Rattle.signal_blocks.proofs.posts.sights_by_point.Goals as goal

pub returns-clause-sights : goal.returns-clause-sights
returns-clause-sights c =
    let posts : c.in_ok-posts.posts.items ≡ posts_of c.args.graph.now c.args.infra.now.signals = search rules in
    let nearest : AreNearest c.in_ok-posts.posts.items c.in_ok-table.table.items = search rules in
    let mapped : c.in_ok-sights.sights ≡ map (option_map (λ (p : Post). p.sight_m)) c.in_ok-table.table.items = search rules in
    rw mapped (sights_are c.args.graph.now c.args.infra.now.signals c.in_ok-posts.posts.items c.in_ok-table.table.items posts nearest)

pub returns-clause-limits : goal.returns-clause-limits
returns-clause-limits c =
    let mapped : c.in_ok-sights.sights ≡ map (option_map (λ (p : Post). p.sight_m)) c.in_ok-table.table.items = search rules in
    rw mapped (sights_within _ c.in_ok-table.table.items c.in_ok-table.ensures.limits)
