-- The lines of a client's admission rules.
use Rattle.std.specs.Prelude.{ℕ, List, [], ◌∷◌, ◌++◌, codes, decimal, flat_map}
use Rattle.admission_rules.specs.declared.tallies.Tally.{Tally}
use Rattle.admission_rules.specs.Ruled.{Ruled}
use Rattle.admission_rules.specs.Names.{name_text}

-- a tally in words
abbrev pub tally_text : Tally → List ℕ
tally_text tally =
    codes " granted " ++ decimal tally.granted ++ codes " freed " ++ decimal tally.freed

-- the line of a rule as it stands: its client, its name, how many paths it was told were
-- granted, and how many of them freed
abbrev pub rule_line : List ℕ → Ruled → List ℕ
rule_line client rule =
    codes "rule " ++ client ++ codes " " ++ name_text rule.sense.name
    ++ tally_text (rule.sense.tally rule.numbers) ++ 10 ∷ []

-- the lines of a client's rules, in order
abbrev pub rule_lines : List ℕ → List Ruled → List ℕ
rule_lines client rules = flat_map (rule_line client) rules
