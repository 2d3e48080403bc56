use Rattle.command_reports.specs.Scenes.{scene}
use Rattle.command_reports.specs.Works.{Runs}
use Rattle.print_commands.specs.Works.{list_calls, ListWorks}
use Rattle.print_commands.proofs.Listed.{list_keeps, run_back, run_clean, run_disks, run_done, run_words}
use Rattle.print_commands.proofs.list_command.runs.run_list.Goals as goal

pub returns : goal.returns
returns g c =
    let network = c.args.network.now in
    let out = c.args.out.now in
    let old = scene g.O.Outside c.args.outside.now in
    let between = scene g.O.Outside c.work-outcome.new.outside in
    let new = scene g.O.Outside c.finish.new.outside in
    let runs : Runs g.O.Snk.Sink (list_calls network out) (ListWorks g.O.Src.Source g.O.Snk.Sink network out) old new c.finish.result = record {
      between = between;
      outcome = c.work-outcome.result;
      works = c.work-outcome.ensures.works;
      keeps = list_keeps g.O.Src.Source g.O.Snk.Sink network out old between c.work-outcome.result c.work-outcome.ensures.works;
      ends = c.finish.ensures.says;
    } in
    record {
      runs = runs;
      done = run_done g.O.Src.Source g.O.Snk.Sink network out old new c.finish.result runs;
      clean = run_clean g.O.Src.Source g.O.Snk.Sink network out old new c.finish.result runs;
      words = run_words g.O.Src.Source g.O.Snk.Sink network out old new c.finish.result runs;
      back = run_back g.O.Src.Source g.O.Snk.Sink network out old new c.finish.result runs;
      disks = run_disks g.O.Src.Source g.O.Snk.Sink network out old new c.finish.result runs;
    }
