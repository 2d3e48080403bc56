use Rattle.std.proofs.Common.{◌∙◌, sym}
use Rattle.command_line.proofs.Spellings.{lacks_cut, unique_cut}
use Rattle.command_line.specs.Rules.{tag_of}
use Rattle.command_line.proofs.Colons.{tag_lacks}
use Rattle.command_line.proofs.rule_words.kinds.read_kind.Goals as goal

pub returns-in_default-clause-none : goal.returns-in_default-clause-none
returns-in_default-clause-none c kind within spelled = lacks_cut 58 _ _ _ c.in_default.ensures.absent (sym spelled)

pub returns-in_default-read_value-clause-none : goal.returns-in_default-read_value-clause-none
returns-in_default-read_value-clause-none c kind within spelled =
    let cut = unique_cut 58 _ (tag_of kind) _ _ c.in-Some.ensures.found.first (tag_lacks kind) (sym c.in-Some.ensures.found.parts ∙ sym spelled) in
    c.in_default-read_value.ensures.none kind within (sym cut.0) (sym cut.1)
