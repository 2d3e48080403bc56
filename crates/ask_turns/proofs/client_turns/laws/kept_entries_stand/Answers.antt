use Rattle.path_commit.specs.history.Verdict.{verdict_on}
use Rattle.ask_turns.proofs.Kept.{said_stands}
use Rattle.ask_turns.proofs.client_turns.laws.kept_entries_stand.Goals as goal

pub returns : goal.returns
returns c timetable entries entry =
    said_stands timetable entries entry (verdict_on timetable entries entry)
    (c.verdicts_say_what_they_mean.ensures.says timetable entries entry)
