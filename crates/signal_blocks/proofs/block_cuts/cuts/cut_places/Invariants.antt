use Rattle.std.proofs.Common.{◌≡◌}
use Rattle.std.specs.List.{filter, range_with_len}
use Rattle.signal_blocks.specs.Cuts.{is_cut}
use Rattle.signal_blocks.proofs.block_cuts.cuts.cut_places.Given as goal

abbrev pub invariant-places : goal.invariant-places
invariant-places l = l.cuts.items ≡ filter (is_cut l.sights l.passed) (range_with_len 0 l.place)
