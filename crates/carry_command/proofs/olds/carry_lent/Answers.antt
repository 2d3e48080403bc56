use Rattle.command_reports.specs.Scenes.{scene}
use Rattle.carry_command.specs.Works.{CarriesOver}
use Rattle.carry_command.proofs.Holding.{goes_says}
use Rattle.carry_command.proofs.olds.carry_lent.Goals as goal

pub returns-in-Ok : goal.returns-in-Ok
returns-in-Ok g c =
    let names = c.args.names.now in
    let network = c.args.network.now in
    record {
      says = goes_says g.O.Dsk.Disk network c.args.before names.from (CarriesOver g.O.Snk.Sink g.O.Dsk.Disk names network c.args.base) c.args.disk.now c.history_on.new.disk (scene g.O.Outside c.args.outside.now) (scene g.O.Outside c.carry_history.new.outside) c.carry_history.result (record {
        history = c.in-Ok.found.history;
        read = record { timetable = c.in-Ok.ensures.timetable; read = c.in-Ok.ensures.history };
        next = c.carry_history.ensures.works;
      });
    }
