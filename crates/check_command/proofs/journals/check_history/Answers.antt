use Rattle.std.proofs.Common.{List, ℕ, inl, inr, refl, subst}
use Rattle.std.proofs.lemmas.Result.{err_from_is_err_and}
use Rattle.command_reports.specs.Scenes.{scene}
use Rattle.check_command.specs.Checks.{TellsProofs}
use Rattle.check_command.specs.Works.{named_by}
use Rattle.check_command.proofs.journals.check_history.Goals as goal

pub returns-in_err-bytes : goal.returns-in_err-bytes
returns-in_err-bytes g c =
    let p = err_from_is_err_and c.from_residual.result c.from_residual.ensures.1 in
    rw (p.1, p.2) (record { works = inl c.in_err-bytes.ensures.step })

pub returns : goal.returns
returns g c = record {
  works = inr (record {
    between = scene g.O.Outside c.read_proof_file.new.outside;
    given = c.in_ok-bytes.bytes;
    first = c.in_ok-bytes.ensures.step;
    next = (
      refl {a = scene g.O.Outside c.read_proof_file.new.outside},
      subst (λ (bytes : List ℕ). TellsProofs (named_by c.args.history.timetable.net c.args.parts) c.args.history.timetable c.args.history.entries bytes c.tell_parts.result) c.deref.ensures.value c.tell_parts.ensures,
    );
  });
}
