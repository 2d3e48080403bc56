-- The trains that run on a stretch in a history.
use Rattle.std.specs.Prelude.{ℕ, Bool, true, false, List, Option, Some, None, slice_get}
use Rattle.rail_types.specs.declared.entries.Deed.{Deed}
use Rattle.rail_types.specs.declared.entries.Deed.TheVariants.{Hold, Grant, Free}
use Rattle.rail_types.specs.declared.entries.Entry.{Entry as entry_type}
use Rattle.rail_types.specs.declared.entries.Owner.{Owner}
use Rattle.rail_types.specs.declared.entries.Owner.TheVariants.{Base, Entry}
use Rattle.rail_types.specs.Timetables.{Timetable}
use Rattle.grant_log.specs.Live.{live_claims}
use Rattle.capacity_406.specs.declared.trains.Occupied.{Occupied}
use Rattle.capacity_406.specs.declared.trains.Stretch.{Stretch}
use Rattle.capacity_406.specs.Selecting.{AreSelected}

-- whether a deed grants a path
abbrev pub is_grant : Deed → Bool
is_grant (Hold claims reason) = false
is_grant (Grant wanted path) = true
is_grant (Free at) = false

-- whether there is an entry, and it grants a path
abbrev pub grants : Option entry_type → Bool
grants None = false
grants (Some entry) = is_grant entry.deed

-- whether the entry at a position grants a path
abbrev pub grants_at : List entry_type → ℕ → Bool
grants_at entries at = grants (slice_get entries at)

-- whether an owner is a train: one of the base timetable, or an entry that grants a path; a hold
-- is none
abbrev pub is_train : List entry_type → Owner → Bool
is_train entries (Base train) = true
is_train entries (Entry at) = grants_at entries at

-- the trains that run on a stretch, by the claims that are live in a history
abbrev pub AreTrainsOn : Stretch → Timetable → List entry_type → List Occupied → Type 0
AreTrainsOn stretch timetable entries trains =
    AreSelected (is_train entries) stretch (live_claims timetable entries) trains
