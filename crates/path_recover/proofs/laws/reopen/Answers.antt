use Rattle.rail_types.specs.Timetables.{timetable_of}
use Rattle.path_recover.proofs.Reopened.{reopens, unrefused}
use Rattle.path_recover.proofs.laws.reopen.Goals as goal

pub returns-in-Err-clause-refused : goal.returns-in-Err-clause-refused
returns-in-Err-clause-refused g c =
    unrefused c.one_reading.ensures.once g.D.Disk c.args.book.now c.keeps.ensures (timetable_of c.args.net.now c.args.base) c.args.network.now c.args.base_digest.now c.requires.files (g.E.Disk.contents c.args.left) c.in-Err.refused.1 c.in-Err.ensures.whole

pub returns-in-Ok-clause-opened : goal.returns-in-Ok-clause-opened
returns-in-Ok-clause-opened g c =
    reopens c.one_reading.ensures.once g.D.Disk c.args.book.now c.keeps.ensures (timetable_of c.args.net.now c.args.base) c.args.network.now c.args.base_digest.now c.requires.files (g.E.Disk.contents c.args.left) c.in-Ok.opened.entries c.in-Ok.ensures.tells
