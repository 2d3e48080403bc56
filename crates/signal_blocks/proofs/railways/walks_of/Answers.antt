use Rattle.std.proofs.Common.{rules, ◌≡◌, ◌∷◌, ◌++◌, []}
use Rattle.std.proofs.lemmas.List.Elements.{All-append, All-cons, All-nil}
use Rattle.route_walk.specs.Sound.{IsSound}
use Rattle.signal_blocks.specs.Railways.{point_count}
use Rattle.signal_blocks.proofs.Whole.{walked_more}
use Rattle.signal_blocks.proofs.railways.walks_of.Goals as goal

pub routes-preserved : goal.routes-preserved
routes-preserved c =
    let layout = c.args.graph.now in
    let infra = c.args.infra.now in
    let pushed : c.push.new.self ≡ c.routes.walks ++ c.in-Ok.walk ∷ [] = search rules in
    rw pushed record {
      walks = walked_more infra layout c.routes.route c.routes.walks c.in-Ok.walk c.routes.invariant.walks c.in-Ok.ensures.walk;
      sound = All-append (IsSound layout.count (point_count infra)) c.routes.walks (c.in-Ok.walk ∷ []) c.routes.invariant.sound (All-cons (IsSound layout.count (point_count infra)) c.in-Ok.walk [] c.in-Ok.ensures.sound (All-nil (IsSound layout.count (point_count infra))));
    }
