use Rattle.std.proofs.Common.{◌++◌, sym, ap, ◌∙◌}
use Rattle.path_recover.proofs.journal_reading.starts.is_old.Goals as goal

pub returns-then-version-ne1-clause-no : goal.returns-then-version-ne1-clause-no
returns-then-version-ne1-clause-no c is =
    c.begins_with.ensures.no is.rest (is.split ∙ ap (λ start. start ++ is.rest) (sym c.start.ensures))
