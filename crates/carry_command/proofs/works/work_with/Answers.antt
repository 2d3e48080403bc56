use Rattle.std.proofs.Common.{inl, inr}
use Rattle.std.proofs.lemmas.Result.{err_from_is_err_and}
use Rattle.command_reports.specs.Scenes.{scene}
use Rattle.carry_command.proofs.works.work_with.Goals as goal

pub returns-in_err-before : goal.returns-in_err-before
returns-in_err-before g c =
    let p = err_from_is_err_and c.from_residual.result c.from_residual.ensures.1 in
    rw (p.1, p.2) (record { works = inl (rw c.from_base.ensures at c.in_err-before.ensures.step) })

pub returns : goal.returns
returns g c = record {
  works = inr (record {
    between = scene g.O.Outside c.read_before.new.outside;
    given = c.in_ok-before.before;
    first = rw c.from_base.ensures at c.in_ok-before.ensures.step;
    next = c.look_first.ensures.works;
  });
}
