use Rattle.entry_codec.proofs.Entries.{bodies_apart}
use Rattle.entry_codec.proofs.Refusals.{back_is, spelled_is}
use Rattle.entry_codec.proofs.reading.one_entry.Goals as goal

pub returns : goal.returns
returns c = record { apart = bodies_apart; back = back_is; spelled = spelled_is }
