use Rattle.std.proofs.Common.{arith}
use Rattle.std.proofs.lemmas.Grind.{common_steps}
use Rattle.std.proofs.lemmas.List.Elements.{All-push}
use Rattle.rail_types.specs.Infras.{IsRange, lengths_of}
use Rattle.railjson_read.proofs.infra_routes.speed_lists.read_ranges.Goals as goal

pub items-preserved : goal.items-preserved
items-preserved c = record {
  read = grind (arith, common_steps);
  count = grind (arith, common_steps);
  within = rw c.in_ok-push.ensures.ok (All-push (IsRange (lengths_of c.args.tracks.now)) c.items.ranges c.in_ok-range_at.field-0 c.items.invariant.within c.in_ok-range_at.ensures.within);
}
