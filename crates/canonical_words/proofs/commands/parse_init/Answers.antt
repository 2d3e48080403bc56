use Rattle.canonical_words.proofs.Canon.{init_back}
use Rattle.canonical_words.proofs.commands.parse_init.Goals as goal

pub taken_back-requires : goal.taken_back-requires
taken_back-requires c = record { comes = init_back c.args.network.now c.args.base.now c.args.journal.now }
