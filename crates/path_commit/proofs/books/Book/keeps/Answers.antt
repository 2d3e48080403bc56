use Rattle.path_commit.proofs.Joining.{keeps_all}
use Rattle.path_commit.proofs.books.Book.keeps.Goals as goal

pub returns : goal.returns
returns g c =
    let s = c.self.inside.parts in
    rw (← c.self.view_is) (keeps_all g.D.Disk s.network s.base s.history s.claims s.journal c.self.invariant c.net.ensures.timetable c.front.ensures.legal)
