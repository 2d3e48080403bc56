use Rattle.ask_turns.proofs.Judged.{by_number, fits, fresh, is_new, missed}
use Rattle.ask_turns.proofs.laws.found_paths_are_judged.Goals as goal

pub returns : goal.returns
returns c =
    let unfreed = c.live_claims_are_unfreed.ensures.unfreed in
    let planned = c.live_claims_are_unfreed.ensures.planned in
    let says = c.verdicts_say_what_they_mean.ensures.says in
    let told = c.the_first_broken_rule_is_told.ensures in
    let ticks = c.stairways_have_ticks.ensures in let alike = c.joined_claims_fit_alike.ensures in record {
      missed = λ timetable owner ask path searched found at was.
          missed unfreed planned says told ticks alike timetable owner ask path searched found was at;
      is_new = λ timetable owner ask path found.
          is_new unfreed planned says told ticks alike timetable owner ask path found;
      by_number = λ timetable owner ask path searched found refused was.
          by_number unfreed planned says told ticks alike timetable owner ask path searched found was refused;
      fresh = λ timetable owner ask path found.
          fresh unfreed planned says told ticks alike timetable owner ask path found;
      fits = λ timetable owner ask path searched found was.
          fits unfreed planned says told ticks alike timetable owner ask path searched found was;
    }
