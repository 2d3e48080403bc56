use Rattle.canonical_words.proofs.Canon.{left_back}
use Rattle.canonical_words.proofs.commands.parse_left.Goals as goal

pub taken_back-requires : goal.taken_back-requires
taken_back-requires c = record { comes = left_back c.args.left.now }
