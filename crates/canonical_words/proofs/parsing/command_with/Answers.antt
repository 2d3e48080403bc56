use Rattle.std.proofs.Common.{◌∙◌, ap, ap₂, sym}
use Rattle.std.proofs.lemmas.List.Sums.{fold_more}
use Rattle.command_line.specs.Spelling.{Setting}
use Rattle.clap.specs.Words.{with_rule}
use Rattle.canonical_words.specs.Canonical.{bare_app, required_rule, with_option}
use Rattle.canonical_words.proofs.parsing.command_with.Goals as goal

pub loop-option-preserved : goal.loop-option-preserved
loop-option-preserved c =
    let more = fold_more with_option (bare_app c.args.name.now) c.args.options.now c.loop-option.option-index c.option-item.result c.loop-option-test.true in
    let option = ap (λ (s : Setting). s.option) (c.option.view_is ∙ c.option-item.is) in
    c.in_ok-command.ensures.shape c.required.ensures.local ∙ (ap₂ with_rule c.loop-option.invariant (c.required.ensures.rule ∙ ap required_rule option) ∙ sym more)
