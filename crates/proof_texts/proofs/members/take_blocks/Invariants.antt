use Rattle.std.proofs.Common.{◌≡◌, ◌-◌}
use Rattle.client_lines.specs.Reading.{read}
use Rattle.client_lines.proofs.Grouping.{with_items}
use Rattle.proof_texts.specs.Forms.{a_block, many}
use Rattle.proof_texts.proofs.members.take_blocks.Given as goal

abbrev pub invariant-loop : goal.invariant-loop
invariant-loop l = with_items l.tail (read (many (a_block l.known) (l.count - l.counter)) l.fields) ≡ read (many (a_block l.known) l.count) l.fn.fields
