use Rattle.std.proofs.Common.{◌≡◌, true, false, is_some, Err, ap, arith}
use Rattle.serde_json.specs.Read.{read}
use Rattle.infra_fields.proofs.KeptValues.{ended, gives_fault, goes_on, text_kept, text_more, text_refused}
use Rattle.infra_fields.proofs.file_values.texts.half_of_text.Goals as goal

pub returns-in-Err : goal.returns-in-Err
returns-in-Err c = gives_fault c.args.half c.in-Err.unread (read c.args.text.now) (λ is. text_refused c.args.text.now (rw c.in-Ok.ensures.ok at (c.in-Err.ensures.err (ap Err is))))

pub returns-then-is_some : goal.returns-then-is_some
returns-then-is_some c =
    let more : is_some c.next.result ≡ true = grind arith in
    let next = goes_on c.next.result c.keep_file.new.reader c.next.new.self c.next.ensures.value more in
    text_more c.args.half c.args.text.now c.in-Ok-keep_file.value c.keep_file.new.reader (rw c.in-Ok.ensures.ok at c.in-Ok-keep_file.ensures.ok) next.0 c.next.new.self next.1

pub returns : goal.returns
returns c =
    let none : is_some c.next.result ≡ false = grind arith in
    text_kept c.args.half c.args.text.now c.in-Ok-keep_file.value c.keep_file.new.reader (rw c.in-Ok.ensures.ok at c.in-Ok-keep_file.ensures.ok) (ended c.next.result c.keep_file.new.reader c.next.new.self c.next.ensures.value none)
