use Rattle.canonical_words.proofs.Canon.{list_back}
use Rattle.canonical_words.proofs.commands.parse_list.Goals as goal

pub taken_back-requires : goal.taken_back-requires
taken_back-requires c = record { comes = list_back c.args.network.now c.args.out.now }
