use Rattle.std.proofs.Common.{inl, inr}
use Rattle.std.proofs.lemmas.Result.{err_from_is_err_and}
use Rattle.command_reports.specs.Scenes.{scene}
use Rattle.carry_command.proofs.works.work_on.Goals as goal

pub returns-in_err-base : goal.returns-in_err-base
returns-in_err-base g c =
    let p = err_from_is_err_and c.from_residual.result c.from_residual.ensures.1 in
    rw (p.1, p.2) (record { works = inl (rw c.base.ensures at c.in_err-base.ensures.step) })

pub returns : goal.returns
returns g c = record {
  works = inr (record {
    between = scene g.O.Outside c.read_base_file.new.outside;
    given = c.in_ok-base.base;
    first = rw c.base.ensures at c.in_ok-base.ensures.step;
    next = c.work_with.ensures.works;
  });
}
