use Rattle.rail_types.specs.InfraIds.{id_of_signal, id_of_track}
use Rattle.std.proofs.Common.{◌≡◌, length, map, drop, []}
use Rattle.std.specs.Prelude.{All}
use Rattle.serde_json.specs.View.{view}
use Rattle.infra_fields.specs.Fields.{read_each}
use Rattle.rail_types.specs.Infras.{IsSignal}
use Rattle.railjson_read.specs.Signals.{signal_at}
use Rattle.railjson_read.proofs.infra_lists.signal_lists.read_signals.Given as goal

abbrev pub invariant-objects : goal.invariant-objects
invariant-objects l = record {
  read : read_each id_of_signal (signal_at (map id_of_track l.tracks)) l.signals (map view (drop l.value-index l.list)) ≡ read_each id_of_signal (signal_at (map id_of_track l.tracks)) [] (map view l.list);
  count : length l.signals ≡ l.value-index;
  within : All (IsSignal (length l.tracks)) l.signals;
}
