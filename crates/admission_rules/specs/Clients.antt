-- The rules of clients, by their names.
use Rattle.std.specs.Prelude.{ℕ, List, [], bytes_eq, flat_map, if◌then◌else◌}
use Rattle.admission_rules.specs.declared.client_rules.clients.ClientRules.{ClientRules}

-- the rules of an element that has this name, and none of another
abbrev pub if_named : {L : Type 0} → List ℕ → ClientRules L → List L
if_named name one = if bytes_eq one.client name then one.rules.items else []

-- the rules of a client of this name: those in the elements with its name, in order
abbrev pub rules_named : {L : Type 0} → List ℕ → List (ClientRules L) → List L
rules_named name all = flat_map (if_named name) all
