use Rattle.label_search.proofs.Exclusion.{excluded, later}
use Rattle.label_search.proofs.laws.closed_members_exclude_paths.Goals as goal

pub returns-clause-none : goal.returns-clause-none
returns-clause-none c plan trip book members closed possible = excluded plan trip book members closed possible

pub returns-clause-later : goal.returns-clause-later
returns-clause-later c plan trip book members tick closed steps path fits = later plan trip tick book members closed steps path fits
