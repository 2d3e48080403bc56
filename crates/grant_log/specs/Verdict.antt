-- What a history says of a new entry.
use Rattle.std.specs.Prelude.{ℕ, Bool, true, false, ◌&&◌, List, Option, Some, None, position}
use Rattle.std.specs.Prelude.{nat_eq, slice_get, bytes_eq, if◌then◌else◌}
use Rattle.rail_types.specs.declared.entries.Entry.{Entry}
use Rattle.rail_types.specs.declared.entries.Deed.{Deed}
use Rattle.rail_types.specs.declared.entries.Deed.TheVariants.{Hold, Grant, Free}
use Rattle.rail_types.specs.FirstClash.{first_clash}
use Rattle.rail_types.specs.Occupation.{HeldClaim}
use Rattle.rail_types.specs.Timetables.{Timetable}
use Rattle.blocking_time.specs.declared.rules.Broken.{Broken}
use Rattle.blocking_time.specs.Broken.{broken}
use Rattle.grant_log.specs.declared.verdicts.Verdict.{Verdict}
use Rattle.grant_log.specs.declared.verdicts.Verdict.TheVariants.{Kept, Gone, Other, BreaksRequest}
use Rattle.grant_log.specs.declared.verdicts.Verdict.TheVariants.{Taken, Unknown, NotYours}
use Rattle.grant_log.specs.declared.verdicts.Verdict.TheVariants.{AlreadyFreed, Fresh}
use Rattle.grant_log.specs.Content.{has_same_content}
use Rattle.grant_log.specs.Live.{claims_of, freed_by, live_claims}

-- whether an entry bears this owner's name and this number
abbrev pub bears : List ℕ → ℕ → Entry → Bool
bears owner number entry = bytes_eq entry.owner owner && nat_eq entry.number number

-- the position at which this owner's number stands
abbrev pub place_of : List Entry → List ℕ → ℕ → Option ℕ
place_of entries owner number = position (bears owner number) entries

abbrev pub kept_or_gone : ℕ → Option ℕ → Verdict
kept_or_gone at None = Kept at
kept_or_gone at (Some freer) = Gone at freer

-- a number that stands with another content is told so; else whether the entry there was freed
abbrev pub verdict_on_repeat : List Entry → Deed → ℕ → Option Entry → Verdict
verdict_on_repeat entries deed at None = Other at
verdict_on_repeat entries deed at (Some stands) =
    if has_same_content stands.deed deed then kept_or_gone at (freed_by entries at) else Other at

-- what an entry with this deed is told whose owner's number stands at this position
abbrev pub repeat_at : List Entry → Deed → ℕ → Verdict
repeat_at entries deed at = verdict_on_repeat entries deed at (slice_get entries at)

-- the position that a Free names
abbrev pub freed_position : Deed → Option ℕ
freed_position (Free at) = Some at
freed_position deed = None

-- the first rule of its request that the path of a grant breaks; a hold and a Free break none
abbrev pub breaks : Timetable → Deed → Option Broken
breaks timetable (Grant wanted path) = broken timetable.net timetable.settings path wanted
breaks timetable (Hold claims reason) = None
breaks timetable (Free at) = None

-- the first live claim that clashes with a claim of this deed, by zone, then by begin
abbrev pub first_taken : Timetable → List Entry → Deed → Option HeldClaim
first_taken timetable entries deed =
    first_clash (live_claims timetable entries) (claims_of timetable deed)

abbrev pub taken_or_fresh : Option HeldClaim → Verdict
taken_or_fresh None = Fresh
taken_or_fresh (Some held) = Taken held.0 held.1

abbrev pub broken_or_else : Option Broken → Verdict → Verdict
broken_or_else None other = other
broken_or_else (Some rule) other = BreaksRequest rule

abbrev pub already_or_fresh : Option ℕ → Verdict
already_or_fresh None = Fresh
already_or_fresh (Some freer) = AlreadyFreed freer

abbrev pub verdict_on_freed : List ℕ → List ℕ → Option ℕ → Verdict
verdict_on_freed owner other freer =
    if bytes_eq other owner then already_or_fresh freer else NotYours other

-- whether a deed takes zones: a hold and a grant do
abbrev pub takes : Deed → Bool
takes (Hold claims reason) = true
takes (Grant wanted path) = true
takes (Free at) = false

-- what stands there must be a hold or a grant, of the owner who frees it, and not be freed
abbrev pub verdict_on_free : List ℕ → Option Entry → Option ℕ → Verdict
verdict_on_free owner None freer = Unknown
verdict_on_free owner (Some stands) freer =
    if takes stands.deed then verdict_on_freed owner stands.owner freer else Unknown

-- a Free is told what stands at the position that it names; a hold or a grant the first rule of its
-- request that its path breaks, and else the first live claim that clashes
abbrev pub verdict_on_deed : Timetable → List Entry → List ℕ → Deed → Verdict
verdict_on_deed timetable entries owner (Free at) =
    verdict_on_free owner (slice_get entries at) (freed_by entries at)
verdict_on_deed timetable entries owner deed =
    broken_or_else (breaks timetable deed) (taken_or_fresh (first_taken timetable entries deed))

-- what an entry is told whose owner's number stands at a position, or nowhere
abbrev pub verdict_by_place : Timetable → List Entry → Entry → Option ℕ → Verdict
verdict_by_place timetable entries entry (Some at) = repeat_at entries entry.deed at
verdict_by_place timetable entries entry None =
    verdict_on_deed timetable entries entry.owner entry.deed

-- what a new entry is told by the history of these entries: first of its number, then of its deed
abbrev pub verdict_on : Timetable → List Entry → Entry → Verdict
verdict_on timetable entries entry =
    verdict_by_place timetable entries entry (place_of entries entry.owner entry.number)
