use Rattle.canonical_words.proofs.Canon.{demo_back}
use Rattle.canonical_words.proofs.commands.parse_demo.Goals as goal

pub taken_back-requires : goal.taken_back-requires
taken_back-requires c = record { comes = demo_back c.args.number.now c.args.out.now }
