use Rattle.command_reports.specs.declared.exit_status.Status.TheVariants.{Done, Words}
use Rattle.command_reports.specs.Scenes.{scene}
use Rattle.command_reports.specs.Works.{Runs}
use Rattle.command_reports.proofs.Ends.{runs_back, runs_disks}
use Rattle.print_commands.specs.Steps.{print_calls, Prints, ReadsHistory}
use Rattle.print_commands.proofs.Printed.{print_keeps, run_clean, run_done, run_no, run_read, run_words}
use Rattle.print_commands.specs.Capacities.{TellsCapacity}
use Rattle.print_commands.proofs.CapacityRefused.{capacity_never, has_no_capacity}
use Rattle.print_commands.proofs.capacity_command.runs.run_capacity.Goals as goal

pub returns : goal.returns
returns g c =
    let source = g.O.Src.Source in
    let sink = g.O.Snk.Sink in
    let disk = g.O.Dsk.Disk in
    let network = c.args.network.now in
    let base = c.args.base.now in
    let journal = c.args.journal.now in
    let out = c.args.out.now in
    let stretch = c.args.stretch.now in
    let tells = TellsCapacity stretch in
    let old = scene g.O.Outside c.args.outside.now in
    let between = scene g.O.Outside c.work-outcome.new.outside in
    let new = scene g.O.Outside c.finish.new.outside in
    let status = c.finish.result in
    let runs : Runs sink (print_calls network base journal out) (Prints sink (ReadsHistory source disk network base journal) out tells) old new status = record {
      between = between;
      outcome = c.work-outcome.result;
      works = c.work-outcome.ensures.works;
      keeps = print_keeps source sink disk network base journal out tells old between c.work-outcome.result c.work-outcome.ensures.works;
      ends = c.finish.ensures.says;
    } in
    record {
      runs = runs;
      done = run_done source sink disk network base journal out tells (capacity_never stretch Done (λ e. cc) (λ e. cc)) old new status runs;
      no = λ is. has_no_capacity source disk network base journal stretch old (run_no source sink disk network base journal out tells old new status runs is);
      clean = run_clean source sink disk network base journal out tells old new status runs;
      words = run_words source sink disk network base journal out tells (capacity_never stretch Words (λ e. cc) (λ e. cc)) old new status runs;
      back = runs_back sink (print_calls network base journal out) (Prints sink (ReadsHistory source disk network base journal) out tells) old new status runs;
      read = run_read source sink disk network base journal out tells old new status runs;
      disks = λ name differs. runs_disks sink (print_calls network base journal out) (Prints sink (ReadsHistory source disk network base journal) out tells) old new status runs name ((λ e. cc), ((λ e. cc), ((λ e. differs cc), ((λ e. cc), tt))));
    }
