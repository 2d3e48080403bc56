use Rattle.std.proofs.Common.{arith}
use Rattle.label_search.proofs.lent.move_along.Goals.{then-way-2, else-way-2}
use Rattle.label_search.proofs.lent.move_along.Goals as goal

pub overflow_add-charted : goal.overflow_add-charted
overflow_add-charted c = let numbered = c.requires in omega arith

pub overflow_mul-result : goal.overflow_mul-result
overflow_mul-result c = let numbered = c.requires in omega arith

pub overflow_add-result : goal.overflow_add-result
overflow_add-result c =
    let numbered = c.requires in
    elim c.if-way-2.branch [
      | then-way-2 w ↦ let made = w.made-is in omega arith
      | else-way-2 w ↦ let made = w.made-is in omega arith
    ]

pub overflow_add-result-2 : goal.overflow_add-result-2
overflow_add-result-2 c =
    let numbered = c.requires in
    elim c.if-way-2.branch [
      | then-way-2 w ↦ let made = w.made-is in omega arith
      | else-way-2 w ↦ let made = w.made-is in omega arith
    ]
