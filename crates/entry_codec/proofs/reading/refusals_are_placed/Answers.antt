use Rattle.entry_codec.proofs.Entries.{missing_at, surplus_at}
use Rattle.entry_codec.proofs.Refusals.{entry_bytes, entry_right}
use Rattle.entry_codec.proofs.reading.refusals_are_placed.Goals as goal

pub returns : goal.returns
returns c = record { fields = entry_bytes; right = entry_right; missing = missing_at; surplus = surplus_at }
