-- The rule of the table's own.
use Rattle.std.specs.Prelude.{false}
use Rattle.admission_rules.specs.Senses.{by_tally, Sense}
use Rattle.admission_rules.specs.declared.rule_names.RuleName.TheVariants.{Own}

-- it is called `own-7`, and allows nothing
abbrev pub allows_nothing : Sense
allows_nothing = by_tally (Own 7) (λ tally wish. false)
