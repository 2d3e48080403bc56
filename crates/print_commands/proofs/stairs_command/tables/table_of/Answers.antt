use Rattle.std.proofs.Common.{sym}
use Rattle.print_commands.proofs.Granted.{granted_sound}
use Rattle.print_commands.proofs.stairs_command.tables.table_of.Goals as goal

pub stairs_table-requires-clause-path : goal.stairs_table-requires-clause-path
stairs_table-requires-clause-path c =
    let history = c.args.history.now in
    (granted_sound c.grants_keep_their_requests.ensures.requests c.claims_are_on_the_network.ensures.stairway history.timetable history.entries c.args.entry c.in-Some.path.now c.net.ensures.timetable c.front.ensures.legal (sym c.in-Some.ensures.path)
    c.net.result.now c.settings.result.now c.net.ensures.net c.settings.ensures.settings).0

pub stairs_table-requires-clause-keeps : goal.stairs_table-requires-clause-keeps
stairs_table-requires-clause-keeps c =
    let history = c.args.history.now in
    (granted_sound c.grants_keep_their_requests.ensures.requests c.claims_are_on_the_network.ensures.stairway history.timetable history.entries c.args.entry c.in-Some.path.now c.net.ensures.timetable c.front.ensures.legal (sym c.in-Some.ensures.path)
    c.net.result.now c.settings.result.now c.net.ensures.net c.settings.ensures.settings).1
