use Rattle.std.proofs.Common.{◌≡◌, drop, length}
use Rattle.batch_command.specs.Tables.{filled, texts_by}
use Rattle.batch_command.proofs.list_replies.texts.put_texts.Given as goal

abbrev pub invariant-loop-at : goal.invariant-loop-at
invariant-loop-at l = record {
  long : length l.texts ≡ length l.fn.texts;
  rest : filled l.texts (texts_by (drop l.at-index l.answers)) ≡ filled l.fn.texts (texts_by l.answers);
}
