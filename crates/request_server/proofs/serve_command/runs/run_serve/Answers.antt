use Rattle.command_reports.specs.Scenes.{Scene, scene}
use Rattle.request_server.specs.Clienteles.{clientele_of}
use Rattle.served_clients.specs.GivenNames.{names_in}
use Rattle.served_clients.specs.RunGhosts.{run_ghosts}
use Rattle.request_server.specs.ServeRuns.{RunsServe}
use Rattle.request_server.proofs.Ended.{serve_clean, serve_disks, serve_done, serve_words}
use Rattle.request_server.proofs.Steps.{serve_back, works_keep}
use Rattle.request_server.proofs.serve_command.runs.run_serve.Goals as goal

pub returns : goal.returns
returns g c =
    let Src = g.row.O-Src.Denot in let Snk = g.row.O-Snk.Denot in let Dsk = g.row.O-Dsk.Denot in
    let ghosts = run_ghosts g.O.Src.Source g.O.Snk.Sink g.O.Dsk.Disk g.L.Rule in
    let names = names_in c.args.names.now in
    let clientele = clientele_of c.args.clients.now c.args.proofs.now c.args.rules.items in
    let old : Scene Src Snk Dsk = scene g.O.Outside c.args.outside.now in
    let between : Scene Src Snk Dsk = scene g.O.Outside c.serve-outcome.new.outside in
    let new : Scene Src Snk Dsk = scene g.O.Outside c.end.new.outside in
    let runs : RunsServe ghosts names clientele old new c.end.result = record {
      between = between;
      outcome = c.serve-outcome.result;
      works = c.serve-outcome.ensures.works;
      keeps = works_keep ghosts names clientele old between c.serve-outcome.result c.serve-outcome.ensures.works;
      ends = c.end.ensures.ends;
    } in
    record {
      runs = runs;
      done = serve_done ghosts names clientele old new c.end.result runs;
      clean = serve_clean ghosts names clientele old new c.end.result runs;
      words = serve_words ghosts names clientele old new c.end.result runs;
      disks = serve_disks ghosts names clientele old new c.end.result runs;
      back = serve_back ghosts names clientele old new c.end.result runs;
    }
