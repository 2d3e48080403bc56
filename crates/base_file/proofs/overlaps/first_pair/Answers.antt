use Rattle.std.proofs.Common.{List, subst, sym}
use Rattle.rail_types.specs.declared.bases.BaseClaim.{BaseClaim}
use Rattle.base_file.specs.Overlaps.{AreSorted, TellsPair}
use Rattle.base_file.proofs.Moved.{are_sorted, told_back}
use Rattle.base_file.proofs.overlaps.first_pair.Goals as goal

pub pair_in-pair-requires : goal.pair_in-pair-requires
pair_in-pair-requires c = subst AreSorted (sym c.as_slice.ensures.value) (are_sorted c.args.claims.now c.in_ok-sorted.sorted.items c.in_ok-sorted.ensures.moved c.in_ok-sorted.ensures.order c.requires.ticks c.requires.joined)

pub returns : goal.returns
returns c = told_back c.args.claims.now c.in_ok-sorted.sorted.items c.pair_in-pair.result c.in_ok-sorted.ensures.moved (subst (λ (list : List BaseClaim). TellsPair list c.pair_in-pair.result) c.as_slice.ensures.value c.pair_in-pair.ensures)
