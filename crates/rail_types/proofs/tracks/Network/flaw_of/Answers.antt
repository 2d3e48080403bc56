use Rattle.std.proofs.Common.{◌∙◌, sym}
use Rattle.rail_types.specs.Flaws.{has_flaw}
use Rattle.rail_types.proofs.FlawKinds.{first_range, first_order, first_empty, first_point, first_serves, first_limit, first_none}
use Rattle.rail_types.proofs.tracks.Network.flaw_of.Goals as goal

pub returns-then-leaves_zones : goal.returns-then-leaves_zones
returns-then-leaves_zones c = sym (first_range (has_flaw c.args.self.now c.args.block.now) (sym c.leaves_zones.ensures ∙ c.if-leaves_zones.true))

pub returns-then-has_cells_out_of_order : goal.returns-then-has_cells_out_of_order
returns-then-has_cells_out_of_order c = sym (first_order (has_flaw c.args.self.now c.args.block.now) (sym c.leaves_zones.ensures ∙ c.if-leaves_zones.false) (sym (c.has_cells_out_of_order.ensures c.args.self.now) ∙ c.if-has_cells_out_of_order.true))

pub returns-then-is_empty : goal.returns-then-is_empty
returns-then-is_empty c = sym (first_empty (has_flaw c.args.self.now c.args.block.now) (sym c.leaves_zones.ensures ∙ c.if-leaves_zones.false) (sym (c.has_cells_out_of_order.ensures c.args.self.now) ∙ c.if-has_cells_out_of_order.false) (sym (c.is_empty.ensures c.args.self.now) ∙ c.if-is_empty.true))

pub returns-then-leaves_points : goal.returns-then-leaves_points
returns-then-leaves_points c = sym (first_point (has_flaw c.args.self.now c.args.block.now) (sym c.leaves_zones.ensures ∙ c.if-leaves_zones.false) (sym (c.has_cells_out_of_order.ensures c.args.self.now) ∙ c.if-has_cells_out_of_order.false) (sym (c.is_empty.ensures c.args.self.now) ∙ c.if-is_empty.false) (sym c.leaves_points.ensures ∙ c.if-leaves_points.true))

pub returns-then-serves_out_of_order : goal.returns-then-serves_out_of_order
returns-then-serves_out_of_order c = sym (first_serves (has_flaw c.args.self.now c.args.block.now) (sym c.leaves_zones.ensures ∙ c.if-leaves_zones.false) (sym (c.has_cells_out_of_order.ensures c.args.self.now) ∙ c.if-has_cells_out_of_order.false) (sym (c.is_empty.ensures c.args.self.now) ∙ c.if-is_empty.false) (sym c.leaves_points.ensures ∙ c.if-leaves_points.false) (sym c.serves_out_of_order.ensures ∙ c.if-serves_out_of_order.true))

pub returns-then-exceeds_limits : goal.returns-then-exceeds_limits
returns-then-exceeds_limits c = sym (first_limit (has_flaw c.args.self.now c.args.block.now) (sym c.leaves_zones.ensures ∙ c.if-leaves_zones.false) (sym (c.has_cells_out_of_order.ensures c.args.self.now) ∙ c.if-has_cells_out_of_order.false) (sym (c.is_empty.ensures c.args.self.now) ∙ c.if-is_empty.false) (sym c.leaves_points.ensures ∙ c.if-leaves_points.false) (sym c.serves_out_of_order.ensures ∙ c.if-serves_out_of_order.false) (sym (c.exceeds_limits.ensures c.args.self.now) ∙ c.if-exceeds_limits.true))

pub returns-else-exceeds_limits : goal.returns-else-exceeds_limits
returns-else-exceeds_limits c = sym (first_none (has_flaw c.args.self.now c.args.block.now) (sym c.leaves_zones.ensures ∙ c.if-leaves_zones.false) (sym (c.has_cells_out_of_order.ensures c.args.self.now) ∙ c.if-has_cells_out_of_order.false) (sym (c.is_empty.ensures c.args.self.now) ∙ c.if-is_empty.false) (sym c.leaves_points.ensures ∙ c.if-leaves_points.false) (sym c.serves_out_of_order.ensures ∙ c.if-serves_out_of_order.false) (sym (c.exceeds_limits.ensures c.args.self.now) ∙ c.if-exceeds_limits.false))
