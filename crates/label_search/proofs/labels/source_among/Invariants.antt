use Rattle.std.specs.Prelude.{ℕ, ◌<◌, ◌≤◌, slice_index_or}
use Rattle.label_search.specs.declared.labels.Label.{Label}
use Rattle.label_search.specs.Labels.{IsOf, as_front}
use Rattle.label_search.proofs.labels.source_among.Given as goal

abbrev pub invariant-loop-number : goal.invariant-loop-number
invariant-loop-number l = record {
  bound : l.number ≤ l.until;
  none : (at : ℕ) (d : Label) → l.number ≤ at → at < l.until → ¬ IsOf l.moment.place l.moment.ready l.moment.tick (as_front (slice_index_or l.labels at d));
}

abbrev pub decreases-loop-number : goal.decreases-loop-number
decreases-loop-number l = l.number
