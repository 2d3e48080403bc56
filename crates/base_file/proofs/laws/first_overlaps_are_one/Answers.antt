use Rattle.base_file.proofs.Facts.{first_overlaps_are_one}
use Rattle.base_file.proofs.laws.first_overlaps_are_one.Goals as goal

pub returns : goal.returns
returns c = first_overlaps_are_one
