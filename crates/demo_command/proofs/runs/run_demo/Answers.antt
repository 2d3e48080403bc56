use Rattle.command_reports.specs.Scenes.{scene}
use Rattle.command_reports.specs.Works.{Runs}
use Rattle.demo_command.specs.Works.{demo_calls, DemoWorks}
use Rattle.demo_command.proofs.Shown.{demo_keeps, run_back, run_clean, run_disks, run_done, run_words}
use Rattle.demo_command.proofs.runs.run_demo.Goals as goal

pub returns : goal.returns
returns g c =
    let sink = g.O.Snk.Sink in
    let number = c.args.number in
    let out = c.args.out.now in
    let old = scene g.O.Outside c.args.outside.now in
    let between = scene g.O.Outside c.work-outcome.new.outside in
    let new = scene g.O.Outside c.finish.new.outside in
    let runs : Runs sink (demo_calls out) (DemoWorks sink number out) old new c.finish.result = record {
      between = between;
      outcome = c.work-outcome.result;
      works = c.work-outcome.ensures.works;
      keeps = demo_keeps sink number out old between c.work-outcome.result c.work-outcome.ensures.works;
      ends = c.finish.ensures.says;
    } in
    record {
      runs = runs;
      done = run_done sink number out old new c.finish.result runs;
      clean = run_clean sink number out old new c.finish.result runs;
      words = run_words sink number out old new c.finish.result runs;
      back = run_back sink number out old new c.finish.result runs;
      disks = run_disks sink number out old new c.finish.result runs;
    }
