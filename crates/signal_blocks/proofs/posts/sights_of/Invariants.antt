use Rattle.std.proofs.Common.{◌≡◌, ◌++◌, drop, map, option_map}
use Rattle.signal_blocks.specs.declared.posts.Post.{Post}
use Rattle.signal_blocks.proofs.posts.sights_of.Given as goal

abbrev pub invariant-table : goal.invariant-table
invariant-table l = l.sights ++ map (option_map (λ (p : Post). p.sight_m)) (drop l.post-index l.table) ≡ map (option_map (λ (p : Post). p.sight_m)) l.table
