use Rattle.std.proofs.Common.{◌≡◌, ◌++◌, map, take}
use Rattle.path_labels.proofs.request_plans.places.push_kept.Given as goal

abbrev pub invariant-loop-zone : goal.invariant-loop-zone
invariant-loop-zone l = l.claims.items ≡ l.fn.claims.items ++ map (λ zone. record { zone = zone; span = record { from = l.span.from; to = l.span.to } }) (take l.zone-index l.zones)
