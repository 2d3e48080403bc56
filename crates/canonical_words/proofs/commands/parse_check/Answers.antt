use Rattle.canonical_words.proofs.Canon.{check_back}
use Rattle.canonical_words.proofs.commands.parse_check.Goals as goal

pub taken_back-requires : goal.taken_back-requires
taken_back-requires c = record { comes = check_back c.args.names.now.network.now c.args.names.now.base.now c.args.names.now.journal.now c.args.trains.now c.args.proof.now }
