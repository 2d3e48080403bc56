use Rattle.std.proofs.Common.{lit<}
use Rattle.std.proofs.lemmas.Str.Pattern.{split_parts}
use Rattle.command_line.proofs.settings.cut_at_equals.Goals as goal

pub returns-in-None-clause-absent : goal.returns-in-None-clause-absent
returns-in-None-clause-absent c = rw c.in-None.is at (split_parts 61 c.args.text.now c.split_once.result c.split_once.ensures.cases (lit< tt))

pub returns-in-Some-clause-found : goal.returns-in-Some-clause-found
returns-in-Some-clause-found c =
    let parts = rw c.in-Some.is at (split_parts 61 c.args.text.now c.split_once.result c.split_once.ensures.cases (lit< tt)) in
    record { parts = parts.0; first = parts.1 }
