-- Rules as they stand, what they say, and what they are told.
use Rattle.std.specs.Prelude.{ℕ, if◌then◌else◌, List, [], ◌∷◌, map, Option, Some, None}
use Rattle.std.specs.Prelude.{option_and_then}
use Rattle.admission_rules.specs.Senses.{Sense}
use Rattle.admission_rules.specs.declared.rules.Rule.{Ghosts}
use Rattle.admission_rules.specs.declared.rules.Wish.{Wish}
use Rattle.admission_rules.specs.declared.rule_names.RuleName.{RuleName}

-- a rule as it stands: its name and what follows from its numbers, and the numbers
pub record Ruled : Type 0 where
  pub sense : Sense
  pub numbers : List ℕ

-- a rule with these
abbrev pub ruled : Sense → List ℕ → Ruled
ruled sense numbers = record { sense = sense; numbers = numbers }

-- rules of one kind as they stand, in order
abbrev pub stand : {L : Type 0} → Ghosts L → List L → List Ruled
stand kind rules = map (λ rule. ruled (kind.sense rule) (kind.numbers rule)) rules

-- ---- what they say

-- the name of the first rule that says no to a wish, None where none does
abbrev pub first_no : List Ruled → Wish → Option RuleName
first_no [] wish = None
first_no (rule ∷ rules) wish =
    if rule.sense.allows rule.numbers wish then first_no rules wish else Some rule.sense.name

-- the same of what is wished, None where nothing is
abbrev pub denied_by : List Ruled → Option Wish → Option RuleName
denied_by rules wish = option_and_then (first_no rules) wish

-- ---- what they are told

-- the rule, once it was told of a grant of the wish
abbrev pub with_grant : Ruled → Wish → Ruled
with_grant rule wish = ruled rule.sense (rule.sense.after_grant rule.numbers wish)

-- the rule, once it was told that such a grant was freed
abbrev pub with_free : Ruled → Wish → Ruled
with_free rule wish = ruled rule.sense (rule.sense.after_free rule.numbers wish)

-- each rule, once it was told that what was wished was granted
abbrev pub granted : Option Wish → List Ruled → List Ruled
granted None rules = rules
granted (Some wish) rules = map (λ rule. with_grant rule wish) rules

-- each rule, once it was told that what was wished was freed
abbrev pub freed : Option Wish → List Ruled → List Ruled
freed None rules = rules
freed (Some wish) rules = map (λ rule. with_free rule wish) rules
