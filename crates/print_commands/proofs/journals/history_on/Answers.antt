use Rattle.print_commands.proofs.Histories.{history_on_disk, refused_on_disk}
use Rattle.print_commands.proofs.journals.history_on.Goals as goal

pub returns-in-Ok-clause-history : goal.returns-in-Ok-clause-history
returns-in-Ok-clause-history g c =
    let e = c.in-Ok.ensures in
    let found = c.in-Ok.found in
    history_on_disk g.D.Disk c.args.network c.args.base c.new-empty.result.timetable found.history.entries found.gate c.args.disk.now c.read_journal.new.disk c.one_reading.ensures.found c.new-empty.ensures.timetable e.found e.durable e.read e.cause

pub returns-clause-refused : goal.returns-clause-refused
returns-clause-refused g c =
    let e = c.in-Err.ensures in
    refused_on_disk g.D.Disk c.args.network c.args.base c.new-empty.result.timetable c.in-Err.fault c.args.disk.now c.read_journal.new.disk c.new-empty.ensures.timetable e.refused e.whole e.read e.cause
