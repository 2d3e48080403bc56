use Rattle.std.proofs.Common.{◌≡◌, ℕ, ◌<◌, false, slice_index_or}
use Rattle.rail_types.specs.declared.entries.Entry.{Entry}
use Rattle.grant_log.specs.Verdict.{bears}
use Rattle.grant_log.proofs.scans.place_of.Given as goal

abbrev pub invariant-loop-at : goal.invariant-loop-at
invariant-loop-at l = (k : ℕ) (other : Entry) → k < l.at → bears l.owner l.number (slice_index_or l.entries k other) ≡ false
