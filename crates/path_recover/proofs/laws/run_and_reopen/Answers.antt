use Rattle.path_recover.proofs.Reopened.{keeps-done}
use Rattle.path_recover.proofs.laws.run_and_reopen.Goals as goal

pub returns-clause-done : goal.returns-clause-done
returns-clause-done g c =
    keeps-done g.D.Disk c.run_all.new.book (g.E.Disk.contents c.args.left) c.args.sent.now c.in-Ok.answers.items c.reopen-opened.result c.in-Ok.ensures.answered c.reopen-opened.ensures.opened
