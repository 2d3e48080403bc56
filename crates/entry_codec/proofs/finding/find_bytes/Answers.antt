use Rattle.entry_codec.proofs.Fields.{bytes_give}
use Rattle.entry_codec.proofs.finding.find_bytes.Goals as goal

pub returns : goal.returns
returns c = bytes_give c.args.fields.now c.bytes.new.self c.in_ok-bytes.field-0.now c.args.count c.in_ok-bytes.ensures.taken c.in_ok-bytes.ensures.count c.in_ok-bytes.ensures.passed
