-- The names of admission rules as texts.
use Rattle.std.specs.Prelude.{List, ℕ, ◌++◌, codes, decimal}
use Rattle.admission_rules.specs.declared.rule_names.RuleName.{RuleName}
use Rattle.admission_rules.specs.declared.rule_names.RuleName.TheVariants.{Quota, Curfew, Longest}
use Rattle.admission_rules.specs.declared.rule_names.RuleName.TheVariants.{Own}

abbrev pub name_text : RuleName → List ℕ
name_text Quota = codes "quota"
name_text Curfew = codes "curfew"
name_text Longest = codes "longest"
name_text (Own number) = codes "own-" ++ decimal number
