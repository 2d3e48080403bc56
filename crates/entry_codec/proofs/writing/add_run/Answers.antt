use Rattle.std.proofs.Common.{ℕ, ◌++◌, ◌∷◌, [], ap, ◌∙◌}
use Rattle.std.specs.Int.{w32, to_be_bytes}
use Rattle.byte_fields.specs.Unread.{signed_bytes}
use Rattle.entry_codec.specs.Body.{flag_byte}
use Rattle.entry_codec.proofs.Appends.{appended}
use Rattle.entry_codec.proofs.writing.add_run.Goals as goal

pub returns-clause-held : goal.returns-clause-held
returns-clause-held c =
    let run = c.args.run.now in
    let block = to_be_bytes w32 run.block in
    let enter = signed_bytes run.enter in
    let leave = signed_bytes run.leave in
    let two = appended c.args.to.now.held _ _ block enter c.add_number.ensures.held c.add_tick.ensures.held in
    let three = appended c.args.to.now.held _ _ (block ++ enter) leave two c.add_tick-2.ensures.held in
    let flagged = c.add_byte.ensures.held ∙ ap (λ (flag : ℕ). c.add_tick-2.new.to.held ++ (flag ∷ [])) c.flag.ensures in
    appended c.args.to.now.held _ _ ((block ++ enter) ++ leave) (flag_byte run.stops ∷ []) three flagged
