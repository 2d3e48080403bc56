use Rattle.std.proofs.Common.{◌∙◌, ap, sym}
use Rattle.proof_texts.specs.Lines.{line_at}
use Rattle.proof_texts.proofs.Cutting.{line_at-cut, line_at-none}
use Rattle.proof_texts.proofs.cuts.Lines.next.Goals as goal

pub returns-in-Some-clause-line : goal.returns-in-Some-clause-line
returns-in-Some-clause-line c = sym (line_at-cut _ _ _ c.in-Some.ensures.found) ∙ ap line_at c.self.view_is

pub returns-in-None-clause-line : goal.returns-in-None-clause-line
returns-in-None-clause-line c = sym (line_at-none _ c.in-None.ensures.absent) ∙ ap line_at c.self.view_is
