use Rattle.std.proofs.Common.{◌≡◌, sym, ◌∙◌, arith, length}
use Rattle.grant_journal.specs.Headers.{header_of}
use Rattle.grant_journal.specs.Histories.{bodies_of, front_of}
use Rattle.path_commit.proofs.Joining.{bodies_count}
use Rattle.path_commit.proofs.books.Book.of.Goals as goal

pub invariant_of-result : goal.invariant_of-result
invariant_of-result g c =
    let a = c.args in
    let count : c.front.result ≡ length (bodies_of a.history.entries) = c.front.ensures.front ∙ sym (bodies_count a.history.entries) in
    let front = c.bytes_are_counted.ensures.front a.network a.base a.history.entries c.has_its_bytes.ensures c.has_its_bytes-2.ensures in
    let gate : a.journal.gate ≡ length (front_of (header_of a.network a.base) (bodies_of a.history.entries)) = omega (arith, front, c.requires.used, c.requires.idle) in
    let kept = c.of-journal.ensures.keeps (header_of a.network a.base) (bodies_of a.history.entries) count gate c.requires.short c.requires.reads in
    record { digests = (c.has_its_bytes.ensures, c.has_its_bytes-2.ensures); live = c.requires.live; zones = c.requires.zones; spelled = c.requires.spelled; kept = kept; room = omega (arith, c.of-journal.ensures.found, c.front.ensures.front) }
