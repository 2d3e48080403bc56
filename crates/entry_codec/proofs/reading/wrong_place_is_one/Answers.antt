use Rattle.entry_codec.proofs.Refusals.{told_is, full_is}
use Rattle.entry_codec.proofs.Alike.{one_place, no_place}
use Rattle.entry_codec.proofs.reading.wrong_place_is_one.Goals as goal

pub returns : goal.returns
returns c = record { one = one_place; never = no_place; told = told_is; full = full_is }
