use Rattle.std.proofs.Common.{inl, refl}
use Rattle.std.proofs.lemmas.Result.{err_from_is_err_and}
use Rattle.command_reports.specs.Scenes.{scene}
use Rattle.print_commands.proofs.capacity_command.works.write_text.Goals as goal

pub returns-in_err-text : goal.returns-in_err-text
returns-in_err-text g c =
    let p = err_from_is_err_and c.from_residual.result c.from_residual.ensures.1 in
    rw (p.1, p.2) (record { writes = inl (refl {a = scene g.O.Outside c.args.outside.now}, c.in_err-text.ensures.refused) })
