use Rattle.std.proofs.Common.{◌≡◌, drop}
use Rattle.admission_rules.specs.Ruled.{first_no, stand}
use Rattle.admission_rules.proofs.client_rules.denials.first_no.Given as goal

abbrev pub invariant-loop-rule : goal.invariant-loop-rule
invariant-loop-rule g l =
    first_no (drop l.rule-index (stand g.L.Rule l.rules)) l.wish ≡ first_no (stand g.L.Rule l.rules) l.wish
