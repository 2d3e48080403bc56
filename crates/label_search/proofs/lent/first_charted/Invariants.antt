use Rattle.std.specs.Prelude.{◌≡◌, ◌+◌, ◌<◌, ◌^◌, All, length}
use Rattle.label_search.specs.Charts.{number_over, open_among}
use Rattle.label_search.proofs.lent.first_charted.Given as goal

abbrev pub invariant-loop-way : goal.invariant-loop-way
invariant-loop-way l = record {
  same : open_among l.charted.call.now l.left ≡ open_among l.charted.call.now l.charted.ways.now;
  few : All (λ way. number_over l.charted.levels way.next (l.charted.made + 1) < 2 ^ 32) l.left;
}

abbrev pub decreases-loop-way : goal.decreases-loop-way
decreases-loop-way l = length l.left
