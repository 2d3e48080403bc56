use Rattle.command_reports.specs.Scenes.{scene}
use Rattle.init_command.proofs.Twice.{step_from_unopened, step_refused, step_unopened}
use Rattle.init_command.proofs.moving.move_journal.Goals as goal

pub returns-in-Err-NotOpened : goal.returns-in-Err-NotOpened
returns-in-Err-NotOpened g c =
    let said = rw c.in-Err-NotOpened.field-0-is at c.in-Err-NotOpened.ensures.says in
    let kept = rw c.in-Err-NotOpened.field-0-is at c.in-Err-NotOpened.ensures.keeps in
    record {
      step = step_unopened g.O.Dsk.Disk c.args.network.now c.args.base c.args.journal.now c.args.from.now (scene g.O.Outside c.args.outside.now) (scene g.O.Outside c.move_disks.new.outside) c.not_opened.result said kept c.not_opened.ensures;
    }

pub returns-in-Err-FromNotOpened : goal.returns-in-Err-FromNotOpened
returns-in-Err-FromNotOpened g c =
    let said = rw c.in-Err-FromNotOpened.field-0-is at c.in-Err-FromNotOpened.ensures.says in
    let kept = rw c.in-Err-FromNotOpened.field-0-is at c.in-Err-FromNotOpened.ensures.keeps in
    record {
      step = step_from_unopened g.O.Dsk.Disk c.args.network.now c.args.base c.args.journal.now c.args.from.now (scene g.O.Outside c.args.outside.now) (scene g.O.Outside c.move_disks.new.outside) c.not_opened-in-Err-FromNotOpened.result said kept
          c.not_opened-in-Err-FromNotOpened.ensures;
    }

pub returns-in-Err-Refused : goal.returns-in-Err-Refused
returns-in-Err-Refused g c =
    let said = rw c.in-Err-Refused.field-0-is at c.in-Err-Refused.ensures.says in
    let kept = rw c.in-Err-Refused.field-0-is at c.in-Err-Refused.ensures.keeps in
    record {
      step = step_refused g.O.Dsk.Disk c.args.network.now c.args.base c.args.journal.now c.args.from.now (scene g.O.Outside c.args.outside.now) (scene g.O.Outside c.move_disks.new.outside) c.in-Err-Refused.fault c.move_refusal.result said kept
          c.move_refusal.ensures;
    }
