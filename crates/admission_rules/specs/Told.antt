-- What rules are told by the entries of a history.
use Rattle.std.specs.Prelude.{ℕ, List, [], ◌∷◌, take, Option, Some, None, option_and_then}
use Rattle.std.specs.Prelude.{slice_get}
use Rattle.admission_rules.specs.declared.rules.Wish.{Wish}
use Rattle.rail_types.specs.declared.entries.Deed.{Deed}
use Rattle.rail_types.specs.declared.entries.Deed.TheVariants.{Hold, Grant, Free}
use Rattle.rail_types.specs.declared.entries.Entry.{Entry}
use Rattle.admission_rules.specs.Ruled.{Ruled, freed, granted}
use Rattle.admission_rules.specs.Wishes.{wish_of}

-- what was wished by the entry at a position
abbrev pub wish_at : List Entry → ℕ → Option Wish
wish_at entries at = option_and_then (λ entry. wish_of entry.deed) (slice_get entries at)

-- rules, once they were told of a deed behind these entries: of a grant that it was granted, and of
-- a Free of a grant that this one was freed; of other deeds they are told nothing
abbrev pub told_deed : List Entry → Deed → List Ruled → List Ruled
told_deed before (Grant wanted path) rules = granted (wish_of (Grant wanted path)) rules
told_deed before (Free at) rules = freed (wish_at before at) rules
told_deed before (Hold claims reason) rules = rules

-- rules, once they were told of an entry behind these
abbrev pub told_of : List Entry → Option Entry → List Ruled → List Ruled
told_of before None rules = rules
told_of before (Some entry) rules = told_deed before entry.deed rules

-- rules, once they were told of the entries at these positions of a history, one after another
abbrev pub told_at : List Entry → List ℕ → List Ruled → List Ruled
told_at history [] rules = rules
told_at history (at ∷ positions) rules =
    told_at history positions (told_of (take at history) (slice_get history at) rules)
