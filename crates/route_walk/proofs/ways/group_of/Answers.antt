use Rattle.std.proofs.Common.{◌∙◌, sym}
use Rattle.route_walk.proofs.Groups.{group_there, group_none, group_past}
use Rattle.route_walk.proofs.ways.group_of.Goals as goal

pub returns-in_default : goal.returns-in_default
returns-in_default c = group_none c.args.ways.now c.args.switch c.first_from.result c.first_from.ensures.before (sym c.way_at.ensures ∙ c.in_default.is)

pub returns-then-way-switch : goal.returns-then-way-switch
returns-then-way-switch c = group_there c.args.ways.now c.args.switch c.first_from.result c.first_from.ensures.before c.in-Some.way (sym c.way_at.ensures ∙ c.in-Some.is) c.if-way-switch.true

pub returns-else-way-switch : goal.returns-else-way-switch
returns-else-way-switch c = group_past c.args.ways.now c.args.switch c.first_from.result c.first_from.ensures.before c.in-Some.way (sym c.way_at.ensures ∙ c.in-Some.is) c.requires c.first_from.ensures.after c.if-way-switch.false
