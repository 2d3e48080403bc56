use Rattle.std.proofs.Common.{arith, ℕ, ◌<◌, length}
use Rattle.std.proofs.lemmas.Grind.{common_steps}
use Rattle.std.proofs.lemmas.List.Elements.{All-push}
use Rattle.railjson_read.proofs.infra_routes.route_lists.read_releases.Goals as goal

pub items-preserved : goal.items-preserved
items-preserved c = record {
  read = grind (arith, common_steps);
  count = grind (arith, common_steps);
  within = rw c.in_ok-push.ensures.ok (All-push (λ (release : ℕ). release < length c.args.detectors.now) c.items.releases c.in_ok-release_at.field-0 c.items.invariant.within c.in_ok-release_at.ensures.within);
}
