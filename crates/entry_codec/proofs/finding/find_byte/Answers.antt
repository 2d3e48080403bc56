use Rattle.entry_codec.proofs.Fields.{byte_gives}
use Rattle.entry_codec.proofs.finding.find_byte.Goals as goal

pub returns : goal.returns
returns c = byte_gives c.args.fields.now c.u8.new.self c.in_ok-u8.field-0 c.in_ok-u8.ensures.taken c.in_ok-u8.ensures.passed
