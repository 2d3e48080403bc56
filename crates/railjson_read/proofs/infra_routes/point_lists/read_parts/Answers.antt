use Rattle.std.proofs.Common.{arith, ◌<◌, length}
use Rattle.std.proofs.lemmas.Grind.{common_steps}
use Rattle.std.proofs.lemmas.List.Elements.{All-push}
use Rattle.rail_types.specs.declared.infra_types.tracks.Part.{Part}
use Rattle.railjson_read.proofs.infra_routes.point_lists.read_parts.Goals as goal

pub items-preserved : goal.items-preserved
items-preserved c = record {
  read = grind (arith, common_steps);
  count = grind (arith, common_steps);
  within = rw c.in_ok-push.ensures.ok (All-push (λ (part : Part). part.track < length c.args.tracks.now) c.items.parts c.in_ok-part_at.field-0 c.items.invariant.within c.in_ok-part_at.ensures.within);
}
