use Rattle.std.proofs.Common.{◌≡◌, ◌<◌, ◌≤◌, length, map, drop, []}
use Rattle.serde_json.specs.View.{view}
use Rattle.train_file.specs.Trains.{AreTrains, read_each}
use Rattle.train_file.proofs.objects.read_list.Given as goal

abbrev pub invariant-objects : goal.invariant-objects
invariant-objects l = record {
  read : read_each l.trains (map view (drop l.value-index l.list)) ≡ read_each [] (map view l.list);
  count : length l.trains ≡ l.value-index;
  sound : AreTrains l.trains;
}
