use Rattle.std.proofs.Transfers.{starts_with_of_append, starts_with_trans}
use Rattle.proof_texts.proofs.prints.print_each_block.Goals as goal

pub returns-in_default : goal.returns-in_default
returns-in_default c = record { ok = tt; kept = starts_with_trans _ _ _ c.print_number.ensures.kept (starts_with_of_append _ _ _ c.loop-block.invariant) }
