-- How an entry changes the claims that are held.
use Rattle.std.specs.Prelude.{◌≡◌, true, List, [], ◌∷◌, length}
use Rattle.rail_types.specs.declared.entries.Entry.{Entry}
use Rattle.rail_types.specs.declared.entries.Deed.{Deed}
use Rattle.rail_types.specs.declared.entries.Deed.TheVariants.{Free}
use Rattle.rail_types.specs.Timetables.{Timetable}
use Rattle.occupation_book.specs.Zones.{Zone}
use Rattle.grant_log.specs.Live.{claims_of, owned_by}
use Rattle.grant_log.specs.Verdict.{takes}
use Rattle.grant_log.specs.Rooms.{HasRoomFor}
use Rattle.grant_log.specs.Since.{claims_at}
use Rattle.grant_log.specs.declared.copy_since.changes.Change.{Change}
use Rattle.grant_log.specs.declared.copy_since.changes.Change.TheVariants.{One, Gained, Lost}

-- a change is that which an entry of this deed makes behind these
abbrev pub IsChangeOf : Timetable → List Entry → Deed → Change → Type 0
IsChangeOf timetable entries deed (One claim owner) =
    (takes deed ≡ true)
    × ((claim, owner) ∷ [] ≡ owned_by (length entries) (claims_of timetable deed))
IsChangeOf timetable entries deed (Gained claims) =
    (takes deed ≡ true) × (claims ≡ owned_by (length entries) (claims_of timetable deed))
IsChangeOf timetable entries deed (Lost at claims) =
    (deed ≡ Free at) × (claims ≡ claims_at timetable entries at)

-- there is room for what a change brings
abbrev pub HasRoomToChange : List Zone → Change → Type 0
HasRoomToChange claims (One claim owner) = HasRoomFor claims ((claim, owner) ∷ [])
HasRoomToChange claims (Gained more) = HasRoomFor claims more
HasRoomToChange claims (Lost at less) = Unit {0}
