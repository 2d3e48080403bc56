use Rattle.command_reports.specs.Scenes.{Scene, scene}
use Rattle.served_clients.specs.RunGhosts.{run_ghosts}
use Rattle.batch_command.specs.GivenBatches.{batch_of}
use Rattle.served_clients.proofs.JournalRounds.{DiskIsRefused, IsRound}
use Rattle.batch_command.proofs.Disks.{step_by, unopened_step}
use Rattle.batch_command.proofs.journals.serve_files.Goals as goal

pub returns-in_default : goal.returns-in_default
returns-in_default g c =
    let Src = g.row.O-Src.Denot in let Snk = g.row.O-Snk.Denot in let Dsk = g.row.O-Dsk.Denot in
    let s0 : Scene Src Snk Dsk = scene g.O.Outside c.args.outside.now in
    let s1 : Scene Src Snk Dsk = scene g.O.Outside c.disk.new.self in
    let refused : DiskIsRefused c.args.journal.now c.in_default.field-0 s0 s1 = record {
      object = c.in_default.ensures.object;
      ready = c.in_default.ensures.ready;
      opened = c.in_default.ensures.opened;
      rose = c.in_default.ensures.cause.failed;
      sources = c.in_default.ensures.sources;
      sinks = c.in_default.ensures.sinks;
      report = c.in_default.ensures.report;
    } in
    record {
      step = unopened_step (run_ghosts g.O.Src.Source g.O.Snk.Sink g.O.Dsk.Disk g.L.Rule) c.args.files c.args.journal.now (batch_of c.args.client.now c.args.workers c.args.rules.items) c.in_default.field-0 s0 s1 c.not_opened.result refused c.not_opened.ensures;
    }

pub returns : goal.returns
returns g c =
    let Src = g.row.O-Src.Denot in let Snk = g.row.O-Snk.Denot in let Dsk = g.row.O-Dsk.Denot in
    let s0 : Scene Src Snk Dsk = scene g.O.Outside c.args.outside.now in
    let s1 : Scene Src Snk Dsk = scene g.O.Outside c.disk.new.self in
    let s2 : Scene Src Snk Dsk = scene g.O.Outside c.serve_disk-disk.new.outside in
    let s3 : Scene Src Snk Dsk = scene g.O.Outside c.put_back_disk.new.self in
    let before : Dsk = c.in-Ok.disk in let after : Dsk = c.serve_disk-disk.result.0 in
    let round : IsRound c.args.journal.now before after s0 s1 s2 s3 = record {
      out = c.in-Ok.ensures.object;
      ready = c.in-Ok.ensures.ready;
      opened = c.in-Ok.ensures.opened;
      quiet = c.in-Ok.ensures.cause.quiet;
      sources = c.in-Ok.ensures.sources;
      sinks = c.in-Ok.ensures.sinks;
      report = c.in-Ok.ensures.report;
      returned = c.put_back_disk.ensures.object;
      stands = c.put_back_disk.ensures.ready;
      no_call = c.put_back_disk.ensures.opened;
      quiet_still = c.put_back_disk.ensures.quiet;
      sources_still = c.put_back_disk.ensures.sources;
      sinks_still = c.put_back_disk.ensures.sinks;
      report_still = c.put_back_disk.ensures.report;
    } in
    record {
      step = step_by c.args.journal.now (batch_of c.args.client.now c.args.workers c.args.rules.items) before after s0 s1 s2 s3 round (run_ghosts g.O.Src.Source g.O.Snk.Sink g.O.Dsk.Disk g.L.Rule) c.args.files c.serve_disk-disk.result.1 c.serve_disk-disk.ensures.says c.serve_disk-disk.ensures.keeps;
    }
