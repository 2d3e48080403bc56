use Rattle.label_search.proofs.Summing.{all_ahead, consistent}
use Rattle.label_search.proofs.laws.aheads_are_consistent.Goals as goal

pub returns-clause-ahead : goal.returns-clause-ahead
returns-clause-ahead c spots calls nears rests dwells are left = all_ahead spots calls nears rests dwells are left

pub returns-clause-consistent : goal.returns-clause-consistent
returns-clause-consistent c spots calls nears rests dwells are left starts horizon book is =
    consistent spots calls nears rests dwells are left starts horizon book is
