use Rattle.std.specs.List.{All}
use Rattle.route_walk.specs.Sound.{IsSound}
use Rattle.signal_blocks.specs.Railways.{AreWalksOf, point_count}
use Rattle.signal_blocks.proofs.railways.walks_of.Given as goal

abbrev pub invariant-routes : goal.invariant-routes
invariant-routes l = record {
  walks : AreWalksOf l.infra l.graph l.route l.walks;
  sound : All (IsSound l.graph.count (point_count l.infra)) l.walks;
}
