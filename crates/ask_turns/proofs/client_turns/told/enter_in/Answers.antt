use Rattle.std.proofs.Common.{subst}
use Rattle.path_commit.specs.history.Live.{claims_of}
use Rattle.ask_turns.specs.declared.client_turns.told.Tried.{Tried}
use Rattle.ask_turns.specs.Told.{TriesIn}
use Rattle.ask_turns.proofs.Kept.{none_from}
use Rattle.ask_turns.proofs.client_turns.told.enter_in.Goals as goal

pub unreachable-requires : goal.unreachable-requires
unreachable-requires g c =
    let book = c.args.book.now in
    let tried = subst (λ (t : Tried). TriesIn g.D.Disk.faults c.args.entry c.front-front.result book c.try_in.new.book t)
    c.in-Missed.is c.in_ok-tried.ensures.tried in
    none_from book.timetable book.entries (claims_of book.timetable c.args.entry.deed) c.front-front.result
    c.front-front.ensures
    (λ at. c.none_clashes_behind.ensures book.timetable book.entries (claims_of book.timetable c.args.entry.deed) at)
    _ tried.1.clash
