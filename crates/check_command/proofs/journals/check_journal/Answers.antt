use Rattle.std.proofs.Common.{Err, Ok, inl, inr, subst, sym}
use Rattle.std.proofs.lemmas.Result.{err_from_is_err_and}
use Rattle.proof_texts.specs.lines.Names.{Names}
use Rattle.proof_texts.specs.lines.Within.{AreSound}
use Rattle.command_files.specs.declared.networks.NetworkFile.{NetworkFile}
use Rattle.command_reports.specs.Scenes.{scene}
use Rattle.print_commands.specs.Journals.{JournalStep}
use Rattle.check_command.specs.Works.{ReadsProofs}
use Rattle.check_command.proofs.Naming.{known_same, names_sound}
use Rattle.check_command.proofs.journals.check_journal.Goals as goal

pub check_history-requires-clause-sound : goal.check_history-requires-clause-sound
check_history-requires-clause-sound g c κs within =
    let same = known_same c.args.network c.parted-plain.result.0 c.args.trains c.args.base c.parted-plain.result.1 c.in_ok-history.history c.parted-plain.ensures.plain c.parted-plain.ensures.parts c.in_ok-history.ensures.step.says.timetable in
    subst AreSound (sym same) (names_sound c.args.network c.args.trains c.requires.read.files)

pub returns-in_err-history : goal.returns-in_err-history
returns-in_err-history g c =
    let p = err_from_is_err_and c.from_residual.result c.from_residual.ensures.1 in
    let old = scene g.O.Outside c.args.outside.now in
    let new = scene g.O.Outside c.read_journal_file.new.outside in
    rw (p.1, p.2) (record {
      works = inl (subst (λ (plain : NetworkFile). JournalStep g.O.Dsk.Disk plain c.args.base c.args.journal.now old new (Err c.in_err-history.field-0.0)) c.parted-plain.ensures.plain c.in_err-history.ensures.step);
    })

pub returns : goal.returns
returns g c =
    let old = scene g.O.Outside c.args.outside.now in
    let between = scene g.O.Outside c.read_journal_file.new.outside in
    let new = scene g.O.Outside c.check_history.new.outside in
    let history = c.in_ok-history.history in
    let same = known_same c.args.network c.parted-plain.result.0 c.args.trains c.args.base c.parted-plain.result.1 history c.parted-plain.ensures.plain c.parted-plain.ensures.parts c.in_ok-history.ensures.step.says.timetable in
    record {
      works = inr (record {
        between = between;
        given = history;
        first = subst (λ (plain : NetworkFile). JournalStep g.O.Dsk.Disk plain c.args.base c.args.journal.now old between (Ok history)) c.parted-plain.ensures.plain c.in_ok-history.ensures.step;
        next = subst (λ (known : Names). ReadsProofs g.O.Src.Source c.args.proof.now known history between new c.check_history.result) same c.check_history.ensures.works;
      });
    }
