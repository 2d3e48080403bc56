use Rattle.std.proofs.Common.{arith}
use Rattle.std.proofs.lemmas.List.Elements.{at_read}
use Rattle.label_search.specs.declared.charts.ChartCall.{ChartCall}
use Rattle.path_labels.specs.KeptNears.{IsLonger, IsNearAt}
use Rattle.path_labels.proofs.KeepingNears.{longer_by, longer_still, near_next, one_longer}
use Rattle.path_labels.proofs.kept_nears.numbers_of.Goals as goal

pub loop-call-preserved : goal.loop-call-preserved
loop-call-preserved c =
    let before = c.loop-call.kept.items in
    let after = c.number_of.new.kept.items in
    let blocks = c.call-item.result.blocks in
    let longer : IsLonger before after = longer_by before after blocks c.number_of.ensures.puts in
    let number = c.in_ok-number_of.field-0 in
    record {
      room = let more = one_longer before after blocks c.number_of.ensures.puts in let room = c.loop-call.invariant.room in let within = c.loop-call-test.true in omega (arith, more, room, within);
      kept = c.number_of.ensures.kept;
      longer = longer_still c.args.kept.now.items before after c.loop-call.invariant.longer longer;
      numbers = near_next c.args.calls.now before after c.loop-call.call-index c.loop-call.numbers.items c.push.new.self.items number longer c.loop-call.invariant.numbers
          (at_read c.args.calls.now (λ (call : ChartCall). IsNearAt after call.blocks number) c.loop-call.call-index c.call-item.result c.loop-call-test.true c.call-item.is c.in_ok-number_of.ensures.number _)
          c.in_ok-push.ensures.items;
    }
