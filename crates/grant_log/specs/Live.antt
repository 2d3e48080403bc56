-- What stands in a history: its live claims, each with its owner.
use Rattle.std.specs.Prelude.{ℕ, ◌+◌, Bool, false, List, [], ◌∷◌, ◌++◌, map, drop, Option}
use Rattle.std.specs.Prelude.{option_map, is_some, position, nat_eq, if◌then◌else◌}
use Rattle.rail_types.specs.declared.paths.Claim.{Claim}
use Rattle.rail_types.specs.declared.entries.Entry.{Entry}
use Rattle.rail_types.specs.declared.entries.Deed.{Deed}
use Rattle.rail_types.specs.declared.entries.Deed.TheVariants.{Hold, Grant, Free}
use Rattle.rail_types.specs.declared.entries.Owner.TheVariants.{Entry as of_entry}
use Rattle.rail_types.specs.Occupation.{HeldClaim}
use Rattle.rail_types.specs.Timetables.{Timetable, base_claims}
use Rattle.blocking_time.specs.Joined.{blocked}

-- the claims of a deed: a hold has its own, a grant the joined blocking times
-- of its path, and a Free none
abbrev pub claims_of : Timetable → Deed → List Claim
claims_of timetable (Hold claims reason) = claims
claims_of timetable (Grant wanted path) = blocked timetable.net timetable.settings path
claims_of timetable (Free at) = []

-- whether a deed frees the entry at this position
abbrev pub frees : ℕ → Deed → Bool
frees at (Free freed) = nat_eq freed at
frees at (Hold claims reason) = false
frees at (Grant wanted path) = false

-- the position of the first later entry that frees the one at this position, None where none does
abbrev pub freed_by : List Entry → ℕ → Option ℕ
freed_by entries at =
    option_map (λ behind. at + 1 + behind)
    (position (λ entry. frees at entry.deed) (drop (at + 1) entries))

-- claims with the entry at this position as their owner
abbrev pub owned_by : ℕ → List Claim → List HeldClaim
owned_by at claims = map (λ claim. (claim, of_entry at)) claims

-- the claims of the entry at this position of a history, none where a later one frees it
abbrev pub live_of : Timetable → List Entry → ℕ → Entry → List HeldClaim
live_of timetable entries at entry =
    if is_some (freed_by entries at) then [] else owned_by at (claims_of timetable entry.deed)

-- the live claims of the entries from this position on
abbrev pub live_from : Timetable → List Entry → ℕ → List Entry → List HeldClaim
live_from timetable entries at [] = []
live_from timetable entries at (entry ∷ others) =
    live_of timetable entries at entry ++ live_from timetable entries (at + 1) others

-- the live claims of a history: those of the base timetable, and those of its
-- entries that no later one frees
abbrev pub live_claims : Timetable → List Entry → List HeldClaim
live_claims timetable entries = base_claims timetable ++ live_from timetable entries 0 entries
