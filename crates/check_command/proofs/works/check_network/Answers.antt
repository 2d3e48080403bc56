use Rattle.std.proofs.Common.{inl, inr}
use Rattle.std.proofs.lemmas.Result.{err_from_is_err_and}
use Rattle.command_reports.specs.Scenes.{scene}
use Rattle.check_command.proofs.works.check_network.Goals as goal

pub returns-in_err-trains : goal.returns-in_err-trains
returns-in_err-trains g c =
    let p = err_from_is_err_and c.from_residual.result c.from_residual.ensures.1 in
    rw (p.1, p.2) (record { works = inl c.in_err-trains.ensures.step })

pub returns : goal.returns
returns g c = record {
  works = inr (record {
    between = scene g.O.Outside c.read_train_file.new.outside;
    given = c.in_ok-trains.trains;
    first = c.in_ok-trains.ensures.step;
    next = c.check_trains.ensures.works;
  });
}
