use Rattle.path_recover.specs.history.declared.verdicts.Verdict.TheVariants.{Kept}
use Rattle.carry_command.proofs.Again.{carried_is_told}
use Rattle.carry_command.proofs.laws.carried_entries_are_kept.Goals as goal

pub returns : goal.returns
returns c =
    let laws = c.verdicts_say_what_they_mean.ensures in
    record {
      kept = λ timetable old front entries kept left place entry again carried here numbered same.
          laws.only timetable entries again (Kept place) tt (carried_is_told laws.says timetable old front entries kept left place entry again carried here numbered same);
    }
