use Rattle.std.proofs.Common.{take}
use Rattle.grant_log.proofs.Legals.{legal_take, never_clash}
use Rattle.grant_log.proofs.laws.legal_histories_never_clash.Goals as goal

pub returns-clause-beginning : goal.returns-clause-beginning
returns-clause-beginning c = legal_take

pub returns-clause-none : goal.returns-clause-none
returns-clause-none c timetable entries front planned legal =
    let laws = c.first_clashes_are_first.ensures in
    never_clash laws.none laws.some timetable (take front entries) planned (legal_take timetable entries front legal)
