use Rattle.std.proofs.Common.{refl}
use Rattle.entry_codec.proofs.Entries.{passed_all}
use Rattle.entry_codec.proofs.passing.pass_all.Goals as goal

pub returns : goal.returns
returns c = passed_all c.args.body.now c.new-fields.result c.pass_entry.new.fields c.new-fields.ensures.at c.new-fields.ensures.left c.in_ok-pass_entry.ensures (c.in_ok-end.ensures.ended.0 refl)
