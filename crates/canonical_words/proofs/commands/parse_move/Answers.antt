use Rattle.canonical_words.proofs.Canon.{move_back}
use Rattle.canonical_words.proofs.commands.parse_move.Goals as goal

pub taken_back-requires : goal.taken_back-requires
taken_back-requires c = record { comes = move_back c.args.network.now c.args.base.now c.args.journal.now c.args.from.now }
