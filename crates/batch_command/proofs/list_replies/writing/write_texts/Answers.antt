use Rattle.std.proofs.Common.{◌∙◌, inr}
use Rattle.batch_command.proofs.Writings.{wrote_some}
use Rattle.batch_command.proofs.list_replies.writing.write_texts.Goals as goal

pub returns-in_default : goal.returns-in_default
returns-in_default g c =
    inr (wrote_some g.T.Sink c.args.texts.now c.loop-text.text-index c.text-item.result c.as_slice.result.now
    c.in_default.field-0.taken c.loop-text.lines c.args.sink.now c.loop-text.sink c.write_all.new.snk
    c.loop-text-test.true (c.as_slice.ensures ∙ c.text-item.is) c.in_default.ensures.part
    c.loop-text.invariant.took c.in_default.ensures.stopped c.loop-text.invariant.lines)
