use Rattle.std.specs.Prelude.{◌≡◌, ◌≤◌, length, take}
use Rattle.label_search.specs.Charts.{open_among}
use Rattle.label_search.proofs.lent.count_open.Given as goal

abbrev pub invariant-loop-way : goal.invariant-loop-way
invariant-loop-way l = record {
  counted : l.count ≡ length (open_among l.call (take l.way-index l.ways));
  few : l.count ≤ l.way-index;
}
