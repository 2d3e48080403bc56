use Rattle.ask_turns.proofs.Kept.{tries_refused}
use Rattle.ask_turns.proofs.client_turns.told.try_in.Goals as goal

pub returns-in_ok-told-in-Refused-clause-tried : goal.returns-in_ok-told-in-Refused-clause-tried
returns-in_ok-told-in-Refused-clause-tried g c =
    tries_refused g.D.Disk.faults c.args.book.now c.commit.new.self c.args.entry c.args.searched
    c.in-Refused.verdict c.in_ok-told-in-Refused.told c.history.result.now.entries
    c.in-Refused.ensures.commits c.history.ensures.entries c.in-Refused.ensures.told
    c.in_ok-told-in-Refused.ensures
