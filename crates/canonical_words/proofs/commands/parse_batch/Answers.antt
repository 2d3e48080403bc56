use Rattle.canonical_words.proofs.Canon.{batch_back}
use Rattle.canonical_words.proofs.commands.parse_batch.Goals as goal

pub taken_back-requires : goal.taken_back-requires
taken_back-requires c = record { comes = batch_back c.args.names.now.network.now c.args.names.now.base.now c.args.names.now.journal.now c.args.trains.now c.args.client.now c.args.workers.now }
