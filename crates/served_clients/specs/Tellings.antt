-- *inside*: what a client's rules are told of the entries that were found.
use Rattle.std.specs.Prelude.{ℕ, Bool, true, false, List, [], ◌∷◌, Option, Some, None, filter}
use Rattle.std.specs.Prelude.{flat_map, if◌then◌else◌, length, option_map, option_to_list}
use Rattle.std.specs.Prelude.{slice_get, take}
use Rattle.line_answers.specs.gate.Views.{positions}
use Rattle.admission_rules.specs.Ruled.{Ruled, freed, granted}
use Rattle.admission_rules.specs.Told.{wish_at}
use Rattle.admission_rules.specs.Wishes.{wish_of}
use Rattle.rail_types.specs.declared.entries.Deed.{Deed}
use Rattle.rail_types.specs.declared.entries.Deed.TheVariants.{Hold, Grant, Free}
use Rattle.rail_types.specs.declared.entries.Entry.{Entry}
use Rattle.served_clients.specs.declared.client_seats.tellings.Telling.{Telling}
use Rattle.served_clients.specs.declared.client_seats.tellings.Telling.TheVariants.{Granted, Freed}
use Rattle.served_clients.specs.ClientRuns.{is_owned}

-- what rules are told of a deed behind these entries, None where they are told nothing
abbrev pub telling_of : List Entry → Deed → Option Telling
telling_of before (Grant wanted path) = option_map Granted (wish_of (Grant wanted path))
telling_of before (Free at) = option_map Freed (wish_at before at)
telling_of before (Hold claims reason) = None

-- the same of an entry behind these
abbrev pub telling_of_entry : List Entry → Option Entry → Option Telling
telling_of_entry before None = None
telling_of_entry before (Some entry) = telling_of before entry.deed

-- the same of the entry at a position, where it is that owner's
abbrev pub own_telling : List Entry → List ℕ → ℕ → Option Telling
own_telling history name at =
    if is_owned name (slice_get history at)
    then telling_of_entry (take at history) (slice_get history at) else None

-- what rules are told of that owner's entries at so many positions from one on
abbrev pub own_tellings_from : List Entry → List ℕ → ℕ → ℕ → List Telling
own_tellings_from history name at count =
    flat_map (λ p. option_to_list (own_telling history name p)) (positions at count)

-- what rules are told of all entries of that owner
abbrev pub own_tellings : List Entry → List ℕ → List Telling
own_tellings history name = own_tellings_from history name 0 (length history)

-- whether rules may be told of a deed: it is no hold
abbrev pub is_no_hold : Deed → Bool
is_no_hold (Grant wanted path) = true
is_no_hold (Free at) = true
is_no_hold (Hold claims reason) = false

-- the same of an entry
abbrev pub may_tell : Option Entry → Bool
may_tell None = false
may_tell (Some entry) = is_no_hold entry.deed

-- the positions of the entries of which rules may be told
abbrev pub told_positions : List Entry → List ℕ
told_positions history =
    filter (λ p. may_tell (slice_get history p)) (positions 0 (length history))

-- rules, once they were told this
abbrev pub told_once : Telling → List Ruled → List Ruled
told_once (Granted wish) rules = granted (Some wish) rules
told_once (Freed wish) rules = freed (Some wish) rules

-- rules, once they were told these, one after another
abbrev pub told_each : List Telling → List Ruled → List Ruled
told_each [] rules = rules
told_each (telling ∷ tellings) rules = told_each tellings (told_once telling rules)
