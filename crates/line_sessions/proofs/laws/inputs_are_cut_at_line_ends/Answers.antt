use Rattle.std.proofs.Common.{◌∙◌, ◌++◌, ap}
use Rattle.line_sessions.proofs.SessionSteps.{lines_of-ended, lines_of-last}
use Rattle.line_sessions.proofs.laws.inputs_are_cut_at_line_ends.Goals as goal

pub returns : goal.returns
returns c lines rest are one = lines_of-ended lines rest are ∙ ap (λ others. lines ++ others) (lines_of-last rest one)
