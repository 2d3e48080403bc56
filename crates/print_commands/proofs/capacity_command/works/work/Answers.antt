use Rattle.std.proofs.Common.{inl, inr}
use Rattle.std.proofs.lemmas.Result.{err_from_is_err_and}
use Rattle.command_reports.specs.Scenes.{scene}
use Rattle.print_commands.proofs.capacity_command.works.work.Goals as goal

pub returns-in_err-history : goal.returns-in_err-history
returns-in_err-history g c =
    let p = err_from_is_err_and c.from_residual.result c.from_residual.ensures.1 in
    rw (p.1, p.2) (record { works = inl c.in_err-history.ensures.works })

pub returns : goal.returns
returns g c = record {
  works = inr (record {
    between = scene g.O.Outside c.read_history_files.new.outside;
    given = c.in_ok-history.history;
    first = c.in_ok-history.ensures.works;
    next = c.write_text.ensures.writes;
  });
}
