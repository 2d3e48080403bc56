use Rattle.std.proofs.Common.{◌≡◌, [], drop, length}
use Rattle.batch_command.specs.InOrder.{all_answers}
use Rattle.batch_command.specs.Tables.{filled, texts_by}
use Rattle.batch_command.proofs.list_replies.texts.put_all.Given as goal

abbrev pub invariant-loop-part : goal.invariant-loop-part
invariant-loop-part l = record {
  long : length l.texts ≡ length l.fn.texts;
  rest : filled l.texts (texts_by (all_answers [] (drop l.part-index l.parts)))
      ≡ filled l.fn.texts (texts_by (all_answers l.first l.parts));
}
