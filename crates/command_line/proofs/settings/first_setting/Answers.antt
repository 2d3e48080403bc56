use Rattle.std.proofs.Common.{◌≡◌, rules, sym, subst, true}
use Rattle.command_line.specs.Spelling.{IsValue}
use Rattle.command_line.proofs.Spellings.{begins_once}
use Rattle.command_line.proofs.settings.first_setting.Goals as goal

pub returns-in_default-clause-none : goal.returns-in_default-clause-none
returns-in_default-clause-none c s rest formed begins = c.in_default.ensures.none s rest formed.option begins

pub returns-else-is_value-clause-none : goal.returns-else-is_value-clause-none
returns-else-is_value-clause-none c s rest formed begins =
    let once = begins_once s c.in-Some.setting _ rest _ formed.option c.in-Some.ensures.formed begins c.in-Some.ensures.first in
    let value : c.setting.inside.value.now ≡ s.value = search (rules, once.0) in
    let is : IsValue c.setting.inside.value.now = subst IsValue (sym value) formed.value in
    let true_is : c.is_value.result ≡ true = c.is_value.ensures.1 is in
    cc
