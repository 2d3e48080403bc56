use Rattle.std.proofs.Common.{◌≡◌, map, drop}
use Rattle.std.specs.List.{list_any}
use Rattle.serde_json.specs.View.{view}
use Rattle.railjson_read.specs.Signals.{is_bal}
use Rattle.railjson_read.proofs.infra_lists.signal_lists.any_is_bal.Given as goal

abbrev pub invariant-items : goal.invariant-items
invariant-items l = list_any is_bal (map view (drop l.item-index l.items)) ≡ list_any is_bal (map view l.items)
