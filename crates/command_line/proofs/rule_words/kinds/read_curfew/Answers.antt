use Rattle.std.proofs.Common.{◌∙◌, sym}
use Rattle.std.specs.Fmt.{signed_decimal}
use Rattle.command_line.proofs.Spellings.{lacks_cut, unique_cut}
use Rattle.command_line.proofs.Colons.{called_curfew, tick_lacks}
use Rattle.command_line.proofs.rule_words.kinds.read_curfew.Goals as goal

pub returns-in_default-clause-none : goal.returns-in_default-clause-none
returns-in_default-clause-none c kind within called value =
    let it = called_curfew kind within called in
    lacks_cut 58 _ _ _ c.in_default.ensures.absent (sym value ∙ it.value_is)

pub returns-in_default-read_tick-clause-none : goal.returns-in_default-read_tick-clause-none
returns-in_default-read_tick-clause-none c kind within called value =
    let it = called_curfew kind within called in
    let cut = unique_cut 58 _ (signed_decimal it.from) _ _ c.in-Some.ensures.found.first (tick_lacks it.from it.from_within) (sym c.in-Some.ensures.found.parts ∙ (sym value ∙ it.value_is)) in
    c.in_default-read_tick.ensures.none it.from it.from_within cut.0

pub returns-in_default-read_tick-2-clause-none : goal.returns-in_default-read_tick-2-clause-none
returns-in_default-read_tick-2-clause-none c kind within called value =
    let it = called_curfew kind within called in
    let cut = unique_cut 58 _ (signed_decimal it.from) _ _ c.in-Some.ensures.found.first (tick_lacks it.from it.from_within) (sym c.in-Some.ensures.found.parts ∙ (sym value ∙ it.value_is)) in
    c.in_default-read_tick-2.ensures.none it.to it.to_within cut.1
