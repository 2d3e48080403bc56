use Rattle.std.specs.Prelude.{◌≡◌}
use Rattle.occupation_book.specs.Held.{held}
use Rattle.refusal_proof.proofs.Staying.{FirstStay}
use Rattle.refusal_proof.proofs.goings.stay.Given as goal

abbrev pub invariant-loop-zone : goal.invariant-loop-zone
invariant-loop-zone l = record {
  from : l.rest.from ≡ l.window.from;
  stays : FirstStay (held l.book) l.zones l.window l.zone-index l.rest.to;
}
