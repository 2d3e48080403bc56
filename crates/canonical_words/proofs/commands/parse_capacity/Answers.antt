use Rattle.canonical_words.proofs.Canon.{capacity_back}
use Rattle.canonical_words.proofs.commands.parse_capacity.Goals as goal

pub taken_back-requires : goal.taken_back-requires
taken_back-requires c = record { comes = capacity_back c.args.names.now.network.now c.args.names.now.base.now c.args.names.now.journal.now c.args.stretch.now.first.now c.args.stretch.now.last.now c.args.stretch.now.from.now c.args.stretch.now.to.now c.args.out.now }
