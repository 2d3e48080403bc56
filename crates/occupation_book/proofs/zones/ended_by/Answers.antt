use Rattle.std.proofs.Common.{◌+◌, ◌<◌, ◌/◌, length, arith, sym, ◌∙◌}
use Rattle.occupation_book.proofs.Clashes.{ended, not_ended}
use Rattle.occupation_book.proofs.Halves.{ended_before, later_from}
use Rattle.occupation_book.proofs.zones.ended_by.Goals.{then-comes_by, else-comes_by}
use Rattle.occupation_book.proofs.zones.ended_by.Goals as goal

pub loop-count-preserved : goal.loop-count-preserved
loop-count-preserved c =
    let ends = c.args.ends.now in let first = c.loop-count.first in let count = c.loop-count.count in
    let known = c.loop-count.invariant in
    let several = c.loop-count-test.true in
    let within : first + count / 2 < length ends = omega (arith, known.bound) in
    elim c.if-comes_by.branch [
      | then-comes_by w ↦ rw w.first-is (record {
        bound = omega (arith, known.bound);
        before = ended_before ends c.args.span.now.from c.requires (first + count / 2) within (ended _ _ (sym c.comes_by.ensures ∙ w.if-comes_by.true));
        after = λ k other low high. known.after k other (omega (arith, low)) high;
      })
      | else-comes_by w ↦ rw w.first-is (record {
        bound = omega (arith, known.bound);
        before = known.before;
        after = λ k other low high. later_from ends c.args.span.now.from c.requires (first + count / 2) within (not_ended _ _ (sym c.comes_by.ensures ∙ w.if-comes_by.false)) k other (omega (arith, low)) high;
      })
    ]
