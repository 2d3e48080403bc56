-- How claims that are held elsewhere keep up with a history.
use Rattle.std.specs.Prelude.{◌≡◌, ◌≢◌, ◌↔◌, ◌⊎◌, List, length, Some, slice_get, Contains}
use Rattle.rail_types.specs.declared.entries.Entry.{Entry}
use Rattle.rail_types.specs.declared.entries.Deed.{Deed}
use Rattle.rail_types.specs.declared.entries.Deed.TheVariants.{Hold, Grant, Free}
use Rattle.rail_types.specs.declared.entries.Owner.{Owner}
use Rattle.rail_types.specs.declared.entries.Owner.TheVariants.{Entry as of_entry}
use Rattle.rail_types.specs.FirstClash.{HoldAlike}
use Rattle.rail_types.specs.Occupation.{HeldClaim}
use Rattle.rail_types.specs.Timetables.{Timetable}
use Rattle.grant_log.specs.Live.{claims_of, live_claims, owned_by}

-- a list of held claims has just the live claims as its members
abbrev pub AreLive : Timetable → List HeldClaim → List Entry → Type 0
AreLive timetable held entries = HoldAlike held (live_claims timetable entries)

-- the held claims with these beside them
abbrev pub Gains : List HeldClaim → List HeldClaim → List HeldClaim → Type 0
Gains old more new = (one : HeldClaim) → Contains new one ↔ (Contains old one ⊎ Contains more one)

-- the held claims but those of this owner
abbrev pub Loses : List HeldClaim → Owner → List HeldClaim → Type 0
Loses old owner new = (one : HeldClaim) → Contains new one ↔ (Contains old one × (one.1 ≢ owner))

-- how held claims change when an entry of this deed comes behind these: those of a hold or a grant
-- come to them, and a Free takes out those of the entry that it names
abbrev pub Follow : Timetable → List Entry → Deed → List HeldClaim → List HeldClaim → Type 0
Follow timetable entries (Free at) old new = Loses old (of_entry at) new
Follow timetable entries deed old new =
    Gains old (owned_by (length entries) (claims_of timetable deed)) new

-- how they change back when the last entry, which stands behind these, is taken out
abbrev pub GoBack : Timetable → List Entry → Deed → List HeldClaim → List HeldClaim → Type 0
GoBack timetable entries (Free at) old new =
    (freed : Entry) → slice_get entries at ≡ Some freed →
    Gains old (owned_by at (claims_of timetable freed.deed)) new
GoBack timetable entries deed old new = Loses old (of_entry (length entries)) new
