use Rattle.track_graph.proofs.PortsNamed.{joints_over, switch_is, took_next, took_twice}
use Rattle.std.proofs.Common.{ap, length, arith}
use Rattle.track_graph.proofs.joints.name_ports.Goals as goal

pub returns-then-not-take_end : goal.returns-then-not-take_end
returns-then-not-take_end c = took_twice c.args.switches.now c.args.number c.ports.port c.index-switches-number.result c.as_slice-ports.result.now c.requires.number c.index-switches-number.is c.as_slice-ports.ensures c.ports-test.true c.ports.joints c.take_end.new.joints _ c.take_end.result c.ports.invariant c.if-not-take_end.true c.take_end.ensures

pub ports-preserved : goal.ports-preserved
ports-preserved c = took_next c.args.switches.now c.args.number c.ports.port c.index-switches-number.result c.as_slice-ports.result.now c.requires.number c.index-switches-number.is c.as_slice-ports.ensures c.ports-test.true c.ports.joints c.take_end.new.joints _ _ c.take_end.result c.ports.invariant c.ports.auto.joints c.requires.within c.if-not-take_end.false c.take_end.ensures

pub returns : goal.returns
returns c =
    let same = ap length c.as_slice-ports.ensures in
    joints_over c.args.switches.now c.args.number c.ports.port c.ports.joints c.ports.invariant c.index-switches-number.result (switch_is c.args.switches.now c.args.number c.index-switches-number.result c.requires.number c.index-switches-number.is) (omega (arith, same, c.ports-test.false))
