use Rattle.std.proofs.Common.{refl}
use Rattle.carry_command.proofs.Going.{goes_without}
use Rattle.carry_command.proofs.carried_history.joining.leave.Goals as goal

pub returns : goal.returns
returns c = goes_without c.args.empty.now.timetable c.args.old.now.entries c.args.at c.args.carrying.now _ c.args.entry.now c.requires.next (record { at = c.args.at; reason = c.args.reason }) refl c.requires.reason refl refl refl c.in_ok-push.ensures.items
