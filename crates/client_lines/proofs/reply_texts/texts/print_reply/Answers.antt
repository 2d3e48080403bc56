use Rattle.std.proofs.lemmas.List.{append-nil}
use Rattle.client_lines.specs.Replies.{state_fields}
use Rattle.client_lines.proofs.reply_texts.texts.print_reply.Goals as goal

pub returns-in-Again : goal.returns-in-Again
returns-in-Again c = rw c.in-Again.is c.print_line-in-Again.ensures

pub returns-in-Shown : goal.returns-in-Shown
returns-in-Shown c = rw c.in-Shown.is (rw (append-nil (state_fields c.in-Shown.entry.deed c.in-Shown.freed_by)) at c.print_line-in-Shown.ensures)
