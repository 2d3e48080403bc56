use Rattle.std.proofs.Common.{◌∙◌}
use Rattle.grant_journal.specs.Headers.{header_of}
use Rattle.grant_journal.specs.Histories.{bodies_of}
use Rattle.path_commit.proofs.books.Book.used.Goals as goal

pub returns : goal.returns
returns g c =
    let s = c.self.inside.parts in
    rw (← c.self.view_is) (c.used.ensures.front (header_of s.network s.base) (bodies_of s.history.entries) c.self.invariant.kept ∙ c.bytes_are_counted.ensures.front s.network s.base s.history.entries c.self.invariant.digests.0 c.self.invariant.digests.1)
