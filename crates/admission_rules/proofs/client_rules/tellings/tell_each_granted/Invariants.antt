use Rattle.std.proofs.Common.{◌≡◌}
use Rattle.admission_rules.specs.Ruled.{stand, with_grant}
use Rattle.admission_rules.proofs.Steps.{so_far}
use Rattle.admission_rules.proofs.client_rules.tellings.tell_each_granted.Given as goal

abbrev pub invariant-loop-rule : goal.invariant-loop-rule
invariant-loop-rule g l =
    stand g.L.Rule l.rules ≡ so_far (λ rule. with_grant rule l.wish) l.rule-index (stand g.L.Rule l.fn.rules)
