use Rattle.std.proofs.Common.{◌≡◌}
use Rattle.path_recover.specs.Files.{IsRefused}
use Rattle.path_recover.specs.Moving.{IsMoved}
use Rattle.path_recover.proofs.Renewed.{quiet-cause, read-err, read-ok}
use Rattle.path_recover.proofs.history_reading.moves.read_old.Goals as goal

pub returns-clause-moved : goal.returns-clause-moved
returns-clause-moved g c =
    read-ok (λ moved file. IsMoved c.args.empty.timetable c.args.network.now c.args.base.now moved.1 (λ image. image ≡ moved.0.items) file) c.renewed_from.result (g.E.Disk.contents c.args.from.now) c.in_ok-file.file.items c.in_ok-file.ensures.bytes c.renewed_from.ensures.moved

pub returns-clause-refused : goal.returns-clause-refused
returns-clause-refused g c =
    read-err (λ file. IsRefused c.args.empty.timetable 1 c.args.network.now c.args.base.now file) c.renewed_from.result (g.E.Disk.contents c.args.from.now) c.in_ok-file.file.items c.in_ok-file.ensures.bytes c.renewed_from.ensures.refused

pub returns-clause-cause : goal.returns-clause-cause
returns-clause-cause g c = quiet-cause (g.E.Disk.faults c.args.from.now) (g.E.Disk.faults c.read_file.new.disk) c.renewed_from.result c.in_ok-file.ensures.cause c.renewed_from.ensures.quiet
