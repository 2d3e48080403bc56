use Rattle.grant_log.proofs.Changing.{fresh_keeps}
use Rattle.path_recover.proofs.history_reading.joins.take.Goals as goal

pub change_of-requires : goal.change_of-requires
change_of-requires c =
    let history = c.args.history.now in
    c.requires.claims (fresh_keeps history.timetable history.entries c.args.entry.now _ c.requires.joins.fresh (c.verdicts_say_what_they_mean.ensures.says history.timetable history.entries c.args.entry.now))
