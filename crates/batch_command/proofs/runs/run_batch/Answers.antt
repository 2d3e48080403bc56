use Rattle.command_reports.specs.Scenes.{Scene, scene}
use Rattle.served_clients.specs.GivenNames.{names_in}
use Rattle.served_clients.specs.RunGhosts.{run_ghosts}
use Rattle.batch_command.specs.GivenBatches.{batch_of}
use Rattle.batch_command.specs.Runs.{RunsBatch}
use Rattle.batch_command.proofs.Ended.{batch_clean, batch_disks, batch_done, batch_no, batch_words}
use Rattle.batch_command.proofs.Steps.{batch_back, works_keep}
use Rattle.batch_command.proofs.runs.run_batch.Goals as goal

pub returns : goal.returns
returns g c =
    let Src = g.row.O-Src.Denot in let Snk = g.row.O-Snk.Denot in let Dsk = g.row.O-Dsk.Denot in
    let ghosts = run_ghosts g.O.Src.Source g.O.Snk.Sink g.O.Dsk.Disk g.L.Rule in
    let names = names_in c.args.names.now in
    let batch = batch_of c.args.client.now c.args.workers c.args.rules.items in
    let old : Scene Src Snk Dsk = scene g.O.Outside c.args.outside.now in
    let between : Scene Src Snk Dsk = scene g.O.Outside c.batch-outcome.new.outside in
    let new : Scene Src Snk Dsk = scene g.O.Outside c.end.new.outside in
    let runs : RunsBatch ghosts names batch old new c.end.result = record {
      between = between;
      outcome = c.batch-outcome.result;
      works = c.batch-outcome.ensures.works;
      keeps = works_keep ghosts names batch old between c.batch-outcome.result c.batch-outcome.ensures.works;
      ends = c.end.ensures.ends;
    } in
    record {
      runs = runs;
      done = batch_done ghosts names batch old new c.end.result runs;
      no = batch_no ghosts names batch old new c.end.result runs;
      clean = batch_clean ghosts names batch old new c.end.result runs;
      words = batch_words ghosts names batch old new c.end.result runs;
      back = batch_back ghosts names batch old new c.end.result runs;
      disks = batch_disks ghosts names batch old new c.end.result runs;
    }
