use Rattle.std.proofs.Common.{inr, subst, sym}
use Rattle.command_reports.specs.Scenes.{scene}
use Rattle.print_commands.specs.Works.{WritesTable}
use Rattle.print_commands.proofs.list_command.works.work.Goals as goal

pub returns : goal.returns
returns g c =
    let told = c.in_ok-named.ensures.step in
    let middle = scene g.O.Outside c.read_network.new.outside in
    record {
      works = inr (record {
        between = middle;
        given = told.0;
        first = told.2;
        next = subst (λ named. WritesTable g.O.Snk.Sink named c.args.out.now middle (scene g.O.Outside c.write_table.new.outside) c.write_table.result) (sym told.1) c.write_table.ensures.writes;
      });
    }
