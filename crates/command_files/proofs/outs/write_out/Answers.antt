use Rattle.std.proofs.Common.{List, ℕ, codes, subst}
use Rattle.command_reports.specs.declared.exit_status.Status.TheVariants.{Opening}
use Rattle.command_reports.specs.Scenes.{scene}
use Rattle.command_reports.specs.Refusals.{IsTold, line_with}
use Rattle.command_files.proofs.Kept.{untouched_sinks}
use Rattle.command_files.proofs.outs.write_out.Goals as goal

pub returns-in-Err-NotOpened : goal.returns-in-Err-NotOpened
returns-in-Err-NotOpened g c =
    let old = scene g.O.Outside c.args.outside.now in
    let new = scene g.O.Outside c.write_file.new.outside in
    let says = rw c.in-Err-NotOpened.field-0-is at c.in-Err-NotOpened.ensures.says in
    let told = c.not_opened.ensures in
    record {
      step = record {
        says = record {
          unready = says.0;
          same = untouched_sinks c.args.name.now old new c.in-Err-NotOpened.ensures.only says.1;
          rose = says.2;
          told = told;
        };
        only = c.in-Err-NotOpened.ensures.only;
      };
    }
