use Rattle.std.proofs.Common.{◌≡◌, List, ap, subst, sym, ◌∙◌}
use Rattle.std.specs.Prelude.{IfSome}
use Rattle.rail_types.specs.declared.entries.Entry.{Entry}
use Rattle.rail_types.specs.Timetables.{Timetable, timetable_of}
use Rattle.path_recover.specs.Failing.{IsUnread}
use Rattle.path_recover.specs.Files.{IsFound, TellsHistory}
use Rattle.path_recover.proofs.Unrefused.{spelled-has}
use Rattle.path_recover.proofs.Reopened.{if-more, if-told}
use Rattle.path_recover.proofs.opening.open.Goals as goal

pub returns-in-Err-clause-whole : goal.returns-in-Err-clause-whole
returns-in-Err-clause-whole g c =
    let network = c.args.network.now in
    let base = c.args.base_digest.now in
    let same : c.new-empty.result.timetable ≡ timetable_of c.args.net.now c.args.base = c.new-empty.ensures.timetable ∙ ap (λ net. timetable_of net c.args.base) c.in-Ok.ensures in
    subst (λ (t : Timetable). IfSome (g.D.Disk.contents c.args.disk) (λ file. (entries : List Entry) → TellsHistory t 2 network base file entries → IsUnread c.in-Err.fault)) same c.in-Err.ensures.whole

pub of-book-requires-clause-reads : goal.of-book-requires-clause-reads
of-book-requires-clause-reads g c image left =
    let network = c.args.network.now in
    let base = c.args.base_digest.now in
    let found = c.in-Ok-read.found in
    let timetable = c.new-empty.result.timetable in
    let told = c.in-Ok-read.ensures.durable image (subst (λ d. g.D.Disk.images d image) c.at-journal.ensures.disk left) in
    let is = if-told (λ file. IsFound timetable 2 network base file found.history.entries found.gate) (g.D.Disk.contents c.args.disk) image told c.in-Ok-read.ensures.found in
    let tells = c.one_reading.ensures.found timetable 2 network base image found.history.entries found.gate is in tells.reads

pub returns-clause-tells : goal.returns-clause-tells
returns-clause-tells g c =
    let network = c.args.network.now in
    let base = c.args.base_digest.now in
    let found = c.in-Ok-read.found in
    let timetable = c.new-empty.result.timetable in
    let same : timetable ≡ timetable_of c.args.net.now c.args.base = c.new-empty.ensures.timetable ∙ ap (λ net. timetable_of net c.args.base) c.in-Ok.ensures in
    let entries : c.of-book.result.entries ≡ found.history.entries = ap (λ b. b.entries) c.of-book.ensures.book in
    if-more (λ file. IsFound timetable 2 network base file found.history.entries found.gate) (λ file. TellsHistory (timetable_of c.args.net.now c.args.base) 2 network base file c.of-book.result.entries) (g.D.Disk.contents c.args.disk)
    (λ file is. subst (λ (t : Timetable). TellsHistory t 2 network base file c.of-book.result.entries) same (subst (λ (l : List Entry). TellsHistory timetable 2 network base file l) (sym entries) (c.one_reading.ensures.found timetable 2 network base file found.history.entries found.gate is)))
    c.in-Ok-read.ensures.found

pub of-book-requires-clause-spelled : goal.of-book-requires-clause-spelled
of-book-requires-clause-spelled g c = spelled-has 2 c.in-Ok-read.found.history.entries c.in-Ok-read.ensures.spelled
