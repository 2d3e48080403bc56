use Rattle.canonical_words.proofs.Canon.{serve_back}
use Rattle.canonical_words.proofs.commands.parse_serve.Goals as goal

pub taken_back-requires : goal.taken_back-requires
taken_back-requires c = record { comes = serve_back c.args.names.now.network.now c.args.names.now.base.now c.args.names.now.journal.now c.args.trains.now }
