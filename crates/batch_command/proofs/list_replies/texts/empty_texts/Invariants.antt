use Rattle.std.proofs.Common.{◌≡◌, [], replicate}
use Rattle.batch_command.proofs.list_replies.texts.empty_texts.Given as goal

abbrev pub invariant-loop-made : goal.invariant-loop-made
invariant-loop-made l = l.texts.items ≡ replicate l._made []
