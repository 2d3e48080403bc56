use Rattle.std.proofs.Common.{inl, refl}
use Rattle.std.proofs.lemmas.Result.{err_from_is_err_and}
use Rattle.command_reports.specs.Scenes.{scene}
use Rattle.demo_command.proofs.works.work.Goals as goal

pub returns-in_err-line : goal.returns-in_err-line
returns-in_err-line g c =
    let p = err_from_is_err_and c.from_residual.result c.from_residual.ensures.1 in
    rw (p.1, p.2) (record { works = inl (refl {a = scene g.O.Outside c.args.outside.now}, c.in_err-line.ensures.memory) })
