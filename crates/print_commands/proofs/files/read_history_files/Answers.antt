use Rattle.std.proofs.Common.{inr}
use Rattle.command_reports.specs.Scenes.{scene}
use Rattle.print_commands.proofs.files.read_history_files.Goals as goal

pub returns : goal.returns
returns g c = record {
  works = inr (record {
    between = scene g.O.Outside c.read_network_file.new.outside;
    given = c.in_ok-network.network;
    first = c.in_ok-network.ensures.step;
    next = c.read_on.ensures.works;
  });
}
