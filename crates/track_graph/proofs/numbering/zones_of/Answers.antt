use Rattle.std.proofs.Common.{arith, ap, length, ◌∙◌}
use Rattle.track_graph.proofs.NeighbourRows.{rows_inside, rows_mutual}
use Rattle.track_graph.proofs.Numbers.{zones_are, front_all, all_marked}
use Rattle.track_graph.proofs.numbering.zones_of.Goals as goal

pub number_all-requires-clause-inside : goal.number_all-requires-clause-inside
number_all-requires-clause-inside c = rw c.deref.ensures.value (rows_inside _ c.args.joins.now c.in_ok-rows.ensures.joined (rw c.in_ok-rows.ensures.long c.requires))

pub number_all-requires-clause-both : goal.number_all-requires-clause-both
number_all-requires-clause-both c = rw c.deref.ensures.value (rows_mutual _ c.args.joins.now c.in_ok-rows.ensures.joined)

pub numbers_of-requires : goal.numbers_of-requires
numbers_of-requires c =
    let same = c.deref-2.ensures.value ∙ front_all _ c.number_all.new.marks _ (omega (arith, c.in_ok-marks.ensures.len, c.in_ok-count.ensures.long, ap length c.deref.ensures.value, c.in_ok-rows.ensures.long)) in
    rw same (all_marked _ _ _ c.in_ok-count.ensures)

pub returns : goal.returns
returns c =
    let same = c.deref-2.ensures.value ∙ front_all _ c.number_all.new.marks _ (omega (arith, c.in_ok-marks.ensures.len, c.in_ok-count.ensures.long, ap length c.deref.ensures.value, c.in_ok-rows.ensures.long)) in
    let numbered = rw (c.deref.ensures.value, c.in_ok-rows.ensures.long) at c.in_ok-count.ensures in
    zones_are _ _ _ _ _ _ c.in_ok-rows.ensures.long c.in_ok-rows.ensures.joined numbered (c.in_ok-numbers_of.ensures ∙ same)
