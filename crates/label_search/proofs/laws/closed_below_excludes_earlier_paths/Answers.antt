use Rattle.label_search.specs.Closed.{IsHeld}
use Rattle.label_search.proofs.Exclusion.{not_below}
use Rattle.label_search.proofs.laws.closed_below_excludes_earlier_paths.Goals as goal

pub returns : goal.returns
returns c plan trip book limits members consistent closed steps path fits = not_below plan limits consistent trip book (IsHeld members) closed steps path fits
