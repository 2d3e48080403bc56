use Rattle.std.proofs.Common.{arith}
use Rattle.path_labels.proofs.Calling.{all_called, calls_next, calls_none}
use Rattle.path_labels.proofs.chart_courses.calls_of.Goals as goal

pub loop-made-init : goal.loop-made-init
loop-made-init c = calls_none c.args.net.now c.args.request.now c.new-calls.result c.new-calls.ensures

pub loop-made-preserved : goal.loop-made-preserved
loop-made-preserved c =
    calls_next c.args.net.now c.args.request.now c.loop-made.made c.loop-made.calls c.push.new.self c.in_ok-call_of.field-0 c.loop-made.invariant c.in_ok-call_of.ensures c.in_ok-push.ensures.ok

pub returns : goal.returns
returns c =
    all_called c.args.net.now c.args.request.now c.loop-made.made c.loop-made.calls c.loop-made.invariant
    (omega (arith, c.loop-made.auto.made-end, c.loop-made-test.false, c.len-made-end.ensures))
