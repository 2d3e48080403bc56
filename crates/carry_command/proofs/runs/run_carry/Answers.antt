use Rattle.std.proofs.Common.{◌∙◌, sym, subst}
use Rattle.command_reports.specs.Scenes.{scene}
use Rattle.outside_io.specs.Places.{Replaces}
use Rattle.print_commands.specs.Steps.{WasOnlyRead}
use Rattle.carry_command.specs.Disks.{IsEmpty}
use Rattle.carry_command.specs.Runs.{RunsCarry, WasCarriedTo}
use Rattle.carry_command.proofs.Ending.{ends_leave, run_clean, run_done, run_first, run_no, run_words}
use Rattle.carry_command.proofs.Moments.{carry_carried, carry_read, carry_unwritten}
use Rattle.carry_command.proofs.Stepping.{carry_keeps, misses_disk, misses_sink}
use Rattle.carry_command.proofs.runs.run_carry.Goals as goal

pub returns : goal.returns
returns g c =
    let source = g.O.Src.Source in
    let sink = g.O.Snk.Sink in
    let disk = g.O.Dsk.Disk in
    let names = c.args.names.now in
    let old = scene g.O.Outside c.args.outside.now in
    let between = scene g.O.Outside c.work-outcome.new.outside in
    let new = scene g.O.Outside c.end.new.outside in
    let status = c.end.result in
    let works = c.work-outcome.ensures.works in
    let keeps = carry_keeps source sink disk names old between c.work-outcome.result works in
    let left = ends_leave sink between new c.work-outcome.result status c.end.ensures.ends in
    let runs : RunsCarry source sink disk names old new status = record {
      between = between;
      outcome = c.work-outcome.result;
      works = works;
      keeps = keeps;
      ends = c.end.ensures.ends;
    } in
    record {
      runs = runs;
      done = run_done source sink disk names old new status runs;
      no = run_no source sink disk names old new status runs;
      unwritten = λ is differs.
          let it = run_first source sink disk names old new status runs is in
          subst (Replaces (IsEmpty disk) (old.disks names.journal)) (sym (left.disks names.journal)) (carry_unwritten source sink disk names differs old between it.0 it.1);
      moments = λ differs. subst (WasCarriedTo source disk names old (old.disks names.journal)) (sym (left.disks names.journal)) (carry_carried source sink disk names differs old between c.work-outcome.result works);
      read = λ differs. subst (WasOnlyRead disk (old.disks names.from)) (sym (left.disks names.from)) (carry_read source sink disk names differs old between c.work-outcome.result works);
      clean = run_clean source sink disk names old new status runs;
      words = run_words source sink disk names old new status runs;
      back = λ call. left.standing call ∙ keeps.keeps.standing call;
      sinks = λ name other. left.sinks name ∙ keeps.keeps.sinks name ((λ e. cc), ((λ e. cc), ((λ e. cc), ((λ e. cc), ((λ e. cc), misses_sink name names.journal names.left other)))));
      disks = λ name other another. left.disks name ∙ keeps.keeps.disks name ((λ e. cc), ((λ e. cc), ((λ e. cc), ((λ e. other cc), ((λ e. another cc), misses_disk name names.journal names.left other)))));
    }
