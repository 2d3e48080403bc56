use Rattle.std.proofs.Common.{◌++◌}
use Rattle.std.specs.Int.{w32, to_be_bytes}
use Rattle.byte_fields.specs.Unread.{signed_bytes}
use Rattle.entry_codec.proofs.Appends.{appended}
use Rattle.entry_codec.proofs.writing.add_claim.Goals as goal

pub returns-clause-held : goal.returns-clause-held
returns-clause-held c =
    let zone = to_be_bytes w32 c.args.claim.now.zone in
    let from = signed_bytes c.args.claim.now.span.from in
    appended c.args.to.now.held _ _ (zone ++ from) (signed_bytes c.args.claim.now.span.to) (appended c.args.to.now.held _ _ zone from c.add_number.ensures.held c.add_tick.ensures.held) c.add_tick-2.ensures.held
