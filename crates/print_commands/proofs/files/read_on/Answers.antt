use Rattle.std.proofs.Common.{inr}
use Rattle.command_reports.specs.Scenes.{scene}
use Rattle.print_commands.proofs.files.read_on.Goals as goal

pub returns : goal.returns
returns g c = record {
  works = inr (record {
    between = scene g.O.Outside c.read_base_file.new.outside;
    given = c.in_ok-base.base;
    first = c.in_ok-base.ensures.step;
    next = c.read_journal_file.ensures.step;
  });
}
