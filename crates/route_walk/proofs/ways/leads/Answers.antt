use Rattle.std.proofs.Common.{subst}
use Rattle.track_graph.specs.Layouts.{IsSwitchAt}
use Rattle.route_walk.proofs.Coming.{no_lead, lead_is, lead_known}
use Rattle.route_walk.proofs.ways.leads.Goals as goal

pub returns-in_default-clause-lead : goal.returns-in_default-clause-lead
returns-in_default-clause-lead c = no_lead c.args.graph.now c.args.ways.now c.args.end (λ _. subst (IsSwitchAt c.args.graph.now c.args.end) c.in_default.is c.switch_at.ensures)

pub returns-clause-lead : goal.returns-clause-lead
returns-clause-lead c = lead_is c.args.graph.now c.args.ways.now c.args.end c.in-Some.switch c.group_of.result c.step.result (subst (IsSwitchAt c.args.graph.now c.args.end) c.in-Some.is c.switch_at.ensures) c.group_of.ensures c.step.ensures

pub returns-clause-known : goal.returns-clause-known
returns-clause-known c = lead_known c.args.infra.now c.args.graph.now c.args.ways.now c.args.end c.step.result c.requires.layout.is c.requires.infra
    (lead_is c.args.graph.now c.args.ways.now c.args.end c.in-Some.switch c.group_of.result c.step.result (subst (IsSwitchAt c.args.graph.now c.args.end) c.in-Some.is c.switch_at.ensures) c.group_of.ensures c.step.ensures)
