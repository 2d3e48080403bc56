use Rattle.std.proofs.Common.{rules}
use Rattle.entry_codec.proofs.Fields.{four_give}
use Rattle.entry_codec.proofs.finding.find_number.Goals as goal

pub returns : goal.returns
returns c = four_give c.args.fields.now c.u32.new.self c.in_ok-u32.field-0 (search rules) c.in_ok-u32.ensures.taken c.in_ok-u32.ensures.passed
