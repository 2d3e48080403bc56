use Rattle.byte_fields.specs.Unread.{signed_bytes}
use Rattle.entry_codec.proofs.Appends.{appended}
use Rattle.entry_codec.proofs.writing.add_window.Goals as goal

pub returns-clause-held : goal.returns-clause-held
returns-clause-held c = appended c.args.to.now.held _ _ (signed_bytes c.args.window.now.from) (signed_bytes c.args.window.now.to) c.add_tick.ensures.held c.add_tick-2.ensures.held
