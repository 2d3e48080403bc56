use Rattle.rail_types.specs.InfraIds.{id_of_switch}
use Rattle.std.proofs.Common.{◌∙◌, sym, map, length}
use Rattle.railjson_read.proofs.Ways.{one_way, inserted}
use Rattle.railjson_read.proofs.infra_routes.way_lists.read_groups.Goals as goal

pub members-preserved : goal.members-preserved
members-preserved c = record {
  read = sym (one_way c.args.place.now (map id_of_switch c.args.switches.now) c.members.groups.entries c.in-Some.key.now c.in-Some.value.now c.next.new.self c.members.key-iterator c.in-Some.ensures.steps c.in_ok-way.way c.put.new.groups.entries c.in_ok-way.ensures.read c.in_ok-put.ensures) ∙ c.members.invariant.read;
  within = rw c.in_ok-put.ensures (inserted (length c.args.switches.now) c.in_ok-way.way.switch c.in_ok-way.way.group c.in_ok-way.ensures.within c.members.groups.entries c.members.invariant.within);
}
