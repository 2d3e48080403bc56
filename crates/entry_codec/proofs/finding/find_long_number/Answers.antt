use Rattle.std.proofs.Common.{rules}
use Rattle.entry_codec.proofs.Fields.{eight_give}
use Rattle.entry_codec.proofs.finding.find_long_number.Goals as goal

pub returns : goal.returns
returns c = eight_give c.args.fields.now c.u64.new.self c.in_ok-u64.field-0 (search rules) c.in_ok-u64.ensures.taken c.in_ok-u64.ensures.passed
