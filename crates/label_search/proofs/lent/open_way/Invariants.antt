use Rattle.std.specs.Prelude.{◌≡◌, ◌<◌, length, drop}
use Rattle.label_search.specs.Charts.{open_among, way_among}
use Rattle.label_search.proofs.lent.open_way.Given as goal

abbrev pub invariant-loop-way : goal.invariant-loop-way
invariant-loop-way l = record {
  there : way_among l.call (drop l.way-index l.ways) l.left ≡ way_among l.call l.ways l.number;
  within : l.left < length (open_among l.call (drop l.way-index l.ways));
}
