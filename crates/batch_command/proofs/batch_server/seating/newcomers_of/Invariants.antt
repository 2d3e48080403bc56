use Rattle.std.proofs.Common.{take}
use Rattle.batch_pool.specs.Batches.{AreMatched}
use Rattle.served_clients.specs.Gates.{IsNewcomer}
use Rattle.batch_command.proofs.batch_server.seating.newcomers_of.Given as goal

abbrev pub invariant-loop-member : goal.invariant-loop-member
invariant-loop-member g l =
    AreMatched (λ member newcomer. IsNewcomer l.book.timetable l.book.entries member.name newcomer) (take l.member-index l.members) l.newcomers.items
