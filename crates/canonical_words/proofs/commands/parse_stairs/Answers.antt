use Rattle.canonical_words.proofs.Canon.{stairs_back}
use Rattle.canonical_words.proofs.commands.parse_stairs.Goals as goal

pub taken_back-requires : goal.taken_back-requires
taken_back-requires c = record { comes = stairs_back c.args.network.now c.args.base.now c.args.journal.now c.args.entry.now c.args.out.now }
