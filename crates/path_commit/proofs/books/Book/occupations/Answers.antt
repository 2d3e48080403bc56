use Rattle.path_commit.proofs.books.Book.occupations.Goals as goal

pub returns-clause-live : goal.returns-clause-live
returns-clause-live g c = rw (← c.self.view_is) c.self.invariant.live
