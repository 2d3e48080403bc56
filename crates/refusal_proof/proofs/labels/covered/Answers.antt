use Rattle.std.proofs.Common.{◌-◌, ◌<◌, get_or, length, pos, arith}
use Rattle.std.proofs.lemmas.List.{get_or_default}
use Rattle.refusal_proof.specs.declared.labels.Label.{Label}
use Rattle.refusal_proof.proofs.Numbering.{not_covered}
use Rattle.refusal_proof.proofs.labels.covered.Goals as goal

pub returns-else-reaches-clause-none : goal.returns-else-reaches-clause-none
returns-else-reaches-clause-none c = λ _.
    let labels = c.args.labels.now in
    let count = c.count_begun-count.result in
    let told = c.count_begun-count.ensures in
    let bound = told.bound in
    let none = c.if-count-eq0.false in
    let d : Label = record { number = 0; window = record { from = pos 0; to = pos 0 } } in
    let some : 0 < count = omega (arith, none) in
    let inside : count - 1 < length labels = omega (arith, some, bound) in
    not_covered labels c.args.number c.args.at.now count c.requires.order (omega (arith, bound)) told.before told.after (get_or labels (count - 1) d) some (λ e. get_or_default labels (count - 1) e d inside)
    (λ same reach. let passes = c.reaches.ensures.1 (same, reach) in let fails = c.if-reaches.false in cc)
