use Rattle.std.proofs.Common.{◌∙◌, rules, length, take_all, arith, sym, subst, All}
use Rattle.capacity_406.specs.InsideStretch.{IsOf}
use Rattle.capacity_406.proofs.Grouping.{parted_at, parted_from}
use Rattle.capacity_406.proofs.stretch_trains.groups.count_of_first.Goals as goal

pub returns-then-ne-clause-parted : goal.returns-then-ne-clause-parted
returns-then-ne-clause-parted c = parted_from c.args.rest.now _ c.loop-count.count c.requires.sorted (omega arith) c.loop-count-test.true c.loop-count.invariant (search (rules, c.ne.ensures, c.if-ne.true))

pub returns-clause-parted : goal.returns-clause-parted
returns-clause-parted c =
    parted_at c.args.rest.now _ (length c.args.rest.now) c.requires.sorted c.requires.some (omega arith)
    (subst (All (IsOf _)) (take_all c.loop-count.count c.args.rest.now (omega arith) ∙ sym (take_all (length c.args.rest.now) c.args.rest.now (omega arith))) c.loop-count.invariant)
    (λ below d. absurd (omega arith))
