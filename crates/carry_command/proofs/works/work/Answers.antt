use Rattle.std.proofs.Common.{inl, inr}
use Rattle.std.proofs.lemmas.Result.{err_from_is_err_and}
use Rattle.command_reports.specs.Scenes.{scene}
use Rattle.carry_command.proofs.works.work.Goals as goal

pub returns-in_err-network : goal.returns-in_err-network
returns-in_err-network g c =
    let p = err_from_is_err_and c.from_residual.result c.from_residual.ensures.1 in
    rw (p.1, p.2) (record { works = inl (rw c.network.ensures at c.in_err-network.ensures.step) })

pub returns : goal.returns
returns g c = record {
  works = inr (record {
    between = scene g.O.Outside c.read_network_file.new.outside;
    given = c.in_ok-network.network;
    first = rw c.network.ensures at c.in_ok-network.ensures.step;
    next = c.work_on.ensures.works;
  });
}
