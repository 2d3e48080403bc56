use Rattle.command_reports.specs.Scenes.{scene}
use Rattle.command_reports.specs.Works.{Runs}
use Rattle.command_reports.proofs.Ends.{runs_back, runs_disks, runs_sinks}
use Rattle.init_command.specs.Works.{move_calls, MoveOver, ReadsBoth}
use Rattle.init_command.proofs.Ended.{move_done, move_keeps, move_words}
use Rattle.init_command.proofs.runs.run_move.Goals as goal

pub returns : goal.returns
returns g c =
    let network = c.args.network.now in
    let base = c.args.base.now in
    let journal = c.args.journal.now in
    let from = c.args.from.now in
    let old = scene g.O.Outside c.args.outside.now in
    let between = scene g.O.Outside c.move_over-outcome.new.outside in
    let new = scene g.O.Outside c.finish.new.outside in
    let runs : Runs g.O.Snk.Sink (move_calls network base journal from) (ReadsBoth g.O.Src.Source network base (MoveOver g.O.Dsk.Disk journal from)) old new c.finish.result = record {
      between = between;
      outcome = c.move_over-outcome.result;
      works = c.move_over-outcome.ensures.works;
      keeps = move_keeps g.O.Src.Source g.O.Dsk.Disk network base journal from old between c.move_over-outcome.result c.move_over-outcome.ensures.works;
      ends = c.finish.ensures.says;
    } in
    record {
      runs = runs;
      done = move_done g.O.Src.Source g.O.Snk.Sink g.O.Dsk.Disk network base journal from old new c.finish.result runs;
      words = move_words g.O.Src.Source g.O.Snk.Sink g.O.Dsk.Disk network base journal from old new c.finish.result runs;
      back = runs_back g.O.Snk.Sink (move_calls network base journal from) (ReadsBoth g.O.Src.Source network base (MoveOver g.O.Dsk.Disk journal from)) old new c.finish.result runs;
      sinks = λ name. runs_sinks g.O.Snk.Sink (move_calls network base journal from) (ReadsBoth g.O.Src.Source network base (MoveOver g.O.Dsk.Disk journal from)) old new c.finish.result runs name ((λ e. cc), ((λ e. cc), ((λ e. cc), ((λ e. cc), tt))));
      disks = λ name differs apart. runs_disks g.O.Snk.Sink (move_calls network base journal from) (ReadsBoth g.O.Src.Source network base (MoveOver g.O.Dsk.Disk journal from)) old new c.finish.result runs name ((λ e. cc), ((λ e. cc), ((λ e. differs cc), ((λ e. apart cc), tt))));
    }
