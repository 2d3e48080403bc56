use Rattle.std.proofs.Common.{inr}
use Rattle.command_reports.specs.Scenes.{scene}
use Rattle.batch_command.proofs.works.batch_network.Goals as goal

pub returns : goal.returns
returns g c = record {
  works = inr (record {
    between = scene g.O.Outside c.read_train_file.new.outside;
    given = c.in_ok-trains.trains;
    first = c.in_ok-trains.ensures.step;
    next = c.batch_trains.ensures.works;
  });
}
