use Rattle.std.proofs.Common.{arith}
use Rattle.std.proofs.lemmas.List.Elements.{All-contains_itself}
use Rattle.check_command.proofs.TrainCounts.{room_behind_first, without_first}
use Rattle.check_command.proofs.counts.make_room.Goals as goal

pub returns-then-len-ge-MAX_COUNTS-clause-among : goal.returns-then-len-ge-MAX_COUNTS-clause-among
returns-then-len-ge-MAX_COUNTS-clause-among c = without_first c.args.counts.now.items c.remove.new.self.items c.remove.ensures.items

pub returns-then-len-ge-MAX_COUNTS-clause-room : goal.returns-then-len-ge-MAX_COUNTS-clause-room
returns-then-len-ge-MAX_COUNTS-clause-room c = λ few. room_behind_first c.args.counts.now.items c.remove.new.self.items c.remove.ensures.items (omega (arith, c.if-len-ge-MAX_COUNTS.true)) few

pub returns-else-len-ge-MAX_COUNTS-clause-among : goal.returns-else-len-ge-MAX_COUNTS-clause-among
returns-else-len-ge-MAX_COUNTS-clause-among c = All-contains_itself c.args.counts.now.items
