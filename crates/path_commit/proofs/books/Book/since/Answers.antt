use Rattle.path_commit.proofs.books.Book.since.Goals as goal

pub bring_up-requires-clause-live : goal.bring_up-requires-clause-live
bring_up-requires-clause-live g c = rw (← c.self.view_is) at c.requires.live

pub returns-clause-live : goal.returns-clause-live
returns-clause-live g c = rw (← c.self.view_is) c.bring_up.ensures.live
