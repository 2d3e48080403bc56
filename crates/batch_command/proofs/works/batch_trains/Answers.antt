use Rattle.std.proofs.Common.{inr}
use Rattle.command_reports.specs.Scenes.{scene}
use Rattle.batch_command.proofs.works.batch_trains.Goals as goal

pub returns : goal.returns
returns g c = record {
  works = inr (record {
    between = scene g.O.Outside c.read_base_file.new.outside;
    given = c.in_ok-base.base;
    first = c.in_ok-base.ensures.step;
    next = c.serve_files.ensures.step;
  });
}
