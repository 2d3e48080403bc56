use Rattle.ask_turns.proofs.Known.{known_live, same_claims_known}
use Rattle.ask_turns.proofs.client_turns.clients.Client.catch_up.Goals as goal

pub since-requires-clause-live : goal.since-requires-clause-live
since-requires-clause-live g c =
    known_live c.args.book.now.timetable c.args.self.now c.args.book.now.entries c.requires.knows

pub returns-in_err-since-clause-knows : goal.returns-in_err-since-clause-knows
returns-in_err-since-clause-knows g c =
    same_claims_known c.args.book.now.timetable c.args.self.now c.since.new.copy
    c.args.book.now.entries c.in_err-since.ensures.err c.since.ensures.zones c.requires.knows
