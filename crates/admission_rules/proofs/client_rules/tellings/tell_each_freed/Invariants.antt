use Rattle.std.proofs.Common.{◌≡◌}
use Rattle.admission_rules.specs.Ruled.{stand, with_free}
use Rattle.admission_rules.proofs.Steps.{so_far}
use Rattle.admission_rules.proofs.client_rules.tellings.tell_each_freed.Given as goal

abbrev pub invariant-loop-rule : goal.invariant-loop-rule
invariant-loop-rule g l =
    stand g.L.Rule l.rules ≡ so_far (λ rule. with_free rule l.wish) l.rule-index (stand g.L.Rule l.fn.rules)
