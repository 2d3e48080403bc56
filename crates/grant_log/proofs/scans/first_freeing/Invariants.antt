use Rattle.std.proofs.Common.{◌≡◌, ℕ, ◌<◌, false, slice_index_or}
use Rattle.rail_types.specs.declared.entries.Entry.{Entry}
use Rattle.grant_log.specs.Live.{frees}
use Rattle.grant_log.proofs.scans.first_freeing.Given as goal

abbrev pub invariant-loop-behind : goal.invariant-loop-behind
invariant-loop-behind l = (k : ℕ) (other : Entry) → k < l.behind → frees l.at (slice_index_or l.entries k other).deed ≡ false
