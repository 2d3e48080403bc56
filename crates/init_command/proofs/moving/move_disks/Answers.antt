use Rattle.command_reports.specs.Scenes.{scene}
use Rattle.init_command.proofs.Twice.{IsRound, keeps_by, says_by}
use Rattle.init_command.proofs.moving.move_disks.Goals as goal

pub returns : goal.returns
returns g c =
    let s0 = scene g.O.Outside c.args.outside.now in
    let s1 = scene g.O.Outside c.disk.new.self in
    let s3 = scene g.O.Outside c.move_from-moved.new.outside in
    let s4 = scene g.O.Outside c.put_back_disk.new.self in
    let round : IsRound c.args.journal.now c.in-Ok.disk c.move_from-moved.new.disk s0 s1 s3 s4 = record {
      out = c.in-Ok.ensures.object;
      ready = c.in-Ok.ensures.ready;
      opened = c.in-Ok.ensures.opened;
      quiet = c.in-Ok.ensures.cause.quiet;
      sources = c.in-Ok.ensures.sources;
      sinks = c.in-Ok.ensures.sinks;
      report = c.in-Ok.ensures.report;
      returned = c.put_back_disk.ensures.object;
      stands = c.put_back_disk.ensures.ready;
      no_call = c.put_back_disk.ensures.opened;
      quiet_still = c.put_back_disk.ensures.quiet;
      sources_still = c.put_back_disk.ensures.sources;
      sinks_still = c.put_back_disk.ensures.sinks;
      report_still = c.put_back_disk.ensures.report;
    } in
    record {
      says = says_by g.O.Dsk.Disk c.args.network.now c.args.base c.args.journal.now c.args.from.now c.in-Ok.disk c.move_from-moved.new.disk s0 s1 s3 s4 c.move_from-moved.result round c.move_from-moved.ensures.says c.move_from-moved.ensures.only;
      keeps = keeps_by g.O.Dsk.Disk c.args.network.now c.args.base c.args.journal.now c.args.from.now c.in-Ok.disk c.move_from-moved.new.disk s0 s1 s3 s4 c.move_from-moved.result round c.move_from-moved.ensures.says c.move_from-moved.ensures.only;
    }
