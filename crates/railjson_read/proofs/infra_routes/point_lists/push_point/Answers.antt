use Rattle.std.proofs.Common.{length}
use Rattle.std.proofs.lemmas.List.Elements.{All-push}
use Rattle.rail_types.specs.Named.{IsId}
use Rattle.rail_types.specs.declared.infra_types.tracks.OperationalPoint.{OperationalPoint}
use Rattle.rail_types.specs.Infras.{IsPoint}
use Rattle.railjson_read.proofs.infra_routes.point_lists.push_point.Goals as goal

pub returns-clause-within : goal.returns-clause-within
returns-clause-within c = rw c.in_ok-push.ensures.ok (All-push (IsPoint (length c.args.tracks.now)) c.args.points.now c.in_ok-point.point c.requires.within c.in_ok-point.ensures.within)

pub returns-clause-named : goal.returns-clause-named
returns-clause-named c = rw c.in_ok-push.ensures.ok (All-push (λ (point : OperationalPoint). IsId point.id) c.args.points.now c.in_ok-point.point c.requires.named (rw c.in_ok-point.ensures.id c.in_ok-id.ensures.named))
