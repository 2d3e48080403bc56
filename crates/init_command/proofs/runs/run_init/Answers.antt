use Rattle.command_reports.specs.Scenes.{scene}
use Rattle.command_reports.specs.Works.{Runs}
use Rattle.command_reports.proofs.Ends.{runs_back, runs_disks, runs_sinks}
use Rattle.init_command.specs.Works.{init_calls, BeginOver, ReadsBoth}
use Rattle.init_command.proofs.Ended.{init_done, init_keeps, init_words}
use Rattle.init_command.proofs.runs.run_init.Goals as goal

pub returns : goal.returns
returns g c =
    let network = c.args.network.now in
    let base = c.args.base.now in
    let journal = c.args.journal.now in
    let old = scene g.O.Outside c.args.outside.now in
    let between = scene g.O.Outside c.begin-outcome.new.outside in
    let new = scene g.O.Outside c.finish.new.outside in
    let runs : Runs g.O.Snk.Sink (init_calls network base journal) (ReadsBoth g.O.Src.Source network base (BeginOver g.O.Dsk.Disk journal)) old new c.finish.result = record {
      between = between;
      outcome = c.begin-outcome.result;
      works = c.begin-outcome.ensures.works;
      keeps = init_keeps g.O.Src.Source g.O.Dsk.Disk network base journal old between c.begin-outcome.result c.begin-outcome.ensures.works;
      ends = c.finish.ensures.says;
    } in
    record {
      runs = runs;
      done = init_done g.O.Src.Source g.O.Snk.Sink g.O.Dsk.Disk network base journal old new c.finish.result runs;
      words = init_words g.O.Src.Source g.O.Snk.Sink g.O.Dsk.Disk network base journal old new c.finish.result runs;
      back = runs_back g.O.Snk.Sink (init_calls network base journal) (ReadsBoth g.O.Src.Source network base (BeginOver g.O.Dsk.Disk journal)) old new c.finish.result runs;
      sinks = λ name. runs_sinks g.O.Snk.Sink (init_calls network base journal) (ReadsBoth g.O.Src.Source network base (BeginOver g.O.Dsk.Disk journal)) old new c.finish.result runs name ((λ e. cc), ((λ e. cc), ((λ e. cc), tt)));
      disks = λ name differs. runs_disks g.O.Snk.Sink (init_calls network base journal) (ReadsBoth g.O.Src.Source network base (BeginOver g.O.Dsk.Disk journal)) old new c.finish.result runs name ((λ e. cc), ((λ e. cc), ((λ e. differs cc), tt)));
    }
