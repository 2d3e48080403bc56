use Rattle.std.proofs.Common.{◌≡◌, ◌∙◌}
use Rattle.path_recover.specs.Files.{IsFound, IsRefused}
use Rattle.path_recover.proofs.Renewed.{if-some, quiet-cause, read-err, read-ok, whole-from}
use Rattle.path_recover.proofs.history_reading.files.read_journal.Goals as goal

pub returns-clause-whole : goal.returns-clause-whole
returns-clause-whole g c =
    let read = c.deref.result.now in
    let contents = g.D.Disk.contents c.args.disk.now in
    let network = c.args.network.now in
    let base = c.args.base.now in
    whole-from c.args.empty.timetable c.args.version network base read c.read_bytes.result contents
    (λ entries fault tells refused. c.one_reading.ensures.whole c.args.empty.timetable c.args.version network base read entries fault c.ranges.version.fits c.told-network c.told-base tells refused)
    c.read_bytes.ensures.refused
    (if-some (λ bytes. c.in_ok-file.file.items ≡ bytes) (λ bytes. read ≡ bytes) contents (λ bytes told same. c.deref.ensures.value ∙ same) c.in_ok-file.ensures.bytes)

pub returns-clause-found : goal.returns-clause-found
returns-clause-found g c =
    let contents = g.D.Disk.contents c.args.disk.now in
    read-ok (λ found file. IsFound c.args.empty.timetable c.args.version c.args.network.now c.args.base.now file found.history.entries found.gate) c.read_bytes.result contents c.deref.result.now
    (if-some (λ bytes. c.in_ok-file.file.items ≡ bytes) (λ bytes. c.deref.result.now ≡ bytes) contents (λ bytes told same. c.deref.ensures.value ∙ same) c.in_ok-file.ensures.bytes)
    c.read_bytes.ensures.found

pub returns-clause-refused : goal.returns-clause-refused
returns-clause-refused g c =
    let contents = g.D.Disk.contents c.args.disk.now in
    read-err (λ file. IsRefused c.args.empty.timetable c.args.version c.args.network.now c.args.base.now file) c.read_bytes.result contents c.deref.result.now
    (if-some (λ bytes. c.in_ok-file.file.items ≡ bytes) (λ bytes. c.deref.result.now ≡ bytes) contents (λ bytes told same. c.deref.ensures.value ∙ same) c.in_ok-file.ensures.bytes)
    c.read_bytes.ensures.refused

pub returns-clause-cause : goal.returns-clause-cause
returns-clause-cause g c = quiet-cause (g.D.Disk.faults c.args.disk.now) (g.D.Disk.faults c.read_file.new.disk) c.read_bytes.result c.in_ok-file.ensures.cause c.read_bytes.ensures.quiet
