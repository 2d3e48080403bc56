use Rattle.std.proofs.Common.{◌≡◌, ◌++◌, take}
use Rattle.admission_rules.specs.Ruled.{stand}
use Rattle.served_clients.specs.Rules.{rule_lines}
use Rattle.served_clients.proofs.serve_reports.rules.push_rule_lines.Given as goal

abbrev pub invariant-loop-rule : goal.invariant-loop-rule
invariant-loop-rule g l =
    l.text.held ≡ l.fn.text.held ++ rule_lines l.client (stand g.L.Rule (take l.rule-index l.rules))
