-- What each verdict says of a new entry.
use Rattle.std.specs.Prelude.{◌≡◌, ◌≢◌, ℕ, true, List, map, take, Some, None, slice_get, All}
use Rattle.rail_types.specs.declared.entries.Entry.{Entry}
use Rattle.rail_types.specs.declared.entries.Deed.{Deed}
use Rattle.rail_types.specs.declared.entries.Deed.TheVariants.{Hold, Grant, Free}
use Rattle.rail_types.specs.FirstClash.{IsFirstClash}
use Rattle.rail_types.specs.Occupation.{Fits, HeldClaim}
use Rattle.rail_types.specs.Timetables.{Timetable}
use Rattle.grant_log.specs.declared.verdicts.Verdict.{Verdict}
use Rattle.grant_log.specs.declared.verdicts.Verdict.TheVariants.{Kept, Gone, Other, BreaksRequest}
use Rattle.grant_log.specs.declared.verdicts.Verdict.TheVariants.{Taken, Unknown, NotYours}
use Rattle.grant_log.specs.declared.verdicts.Verdict.TheVariants.{AlreadyFreed, Fresh}
use Rattle.grant_log.specs.Content.{HaveSameContent}
use Rattle.grant_log.specs.Live.{claims_of, freed_by, live_claims}
use Rattle.grant_log.specs.Verdict.{breaks, takes}

-- an entry bears this owner's name and this number
abbrev pub IsNumbered : List ℕ → ℕ → Entry → Type 0
IsNumbered owner number other = (other.owner ≡ owner) × (other.number ≡ number)

-- the owner's number stands nowhere in the history
abbrev pub IsNew : List Entry → Entry → Type 0
IsNew entries entry = All (λ other. ¬ IsNumbered entry.owner entry.number other) entries

-- the owner's number stands at this position, with this entry, and nowhere before it
pub record StandsAt (entries : List Entry) (entry : Entry) (at : ℕ) (stands : Entry) : Type 0 where
  pub here : slice_get entries at ≡ Some stands
  pub numbered : IsNumbered entry.owner entry.number stands
  pub first : IsNew (take at entries) entry

-- the owner's number stands at this position, with the same content
abbrev pub Repeats : List Entry → Entry → ℕ → Type 0
Repeats entries entry at =
    (stands : Entry) × StandsAt entries entry at stands × HaveSameContent stands.deed entry.deed

-- the owner's number stands at this position, with another content
abbrev pub Differs : List Entry → Entry → ℕ → Type 0
Differs entries entry at =
    (stands : Entry) × StandsAt entries entry at stands
    × (¬ HaveSameContent stands.deed entry.deed)

-- a deed that frees the entry at this position, where this hold or grant stands
pub record IsFreeOf (entries : List Entry) (deed : Deed) (at : ℕ) (stands : Entry) : Type 0 where
  pub frees : deed ≡ Free at
  pub here : slice_get entries at ≡ Some stands
  pub takes : takes stands.deed ≡ true

-- the claims of a deed clash with no live claim
abbrev pub FitsLive : Timetable → List Entry → Deed → Type 0
FitsLive timetable entries deed =
    Fits (claims_of timetable deed) (map (λ held. held.0) (live_claims timetable entries))

-- a hold or a grant breaks no rule and fits; a Free names a hold or a grant of its
-- own owner that none has freed
abbrev pub MayJoin : Timetable → List Entry → List ℕ → Deed → Type 0
MayJoin timetable entries owner (Free at) =
    (stands : Entry) × IsFreeOf entries (Free at) at stands
    × (stands.owner ≡ owner) × (freed_by entries at ≡ None)
MayJoin timetable entries owner deed =
    (breaks timetable deed ≡ None) × FitsLive timetable entries deed

-- the live claim that a hold or a grant is told, which breaks no rule
pub record MeetsClaim (timetable : Timetable) (entries : List Entry) (deed : Deed)
    (held : HeldClaim) : Type 0 where
  pub keeps : breaks timetable deed ≡ None
  pub first : IsFirstClash (live_claims timetable entries) (claims_of timetable deed) held

-- what a verdict says of an entry whose number is new
abbrev pub SaysOfNew : Timetable → List Entry → Entry → Verdict → Type 0
SaysOfNew timetable entries entry (BreaksRequest rule) = breaks timetable entry.deed ≡ Some rule
SaysOfNew timetable entries entry (Taken claim owner) =
    MeetsClaim timetable entries entry.deed (claim, owner)
SaysOfNew timetable entries entry Unknown =
    (at : ℕ) × (entry.deed ≡ Free at)
    × ((stands : Entry) → ¬ IsFreeOf entries entry.deed at stands)
SaysOfNew timetable entries entry (NotYours owner) =
    (at : ℕ) × (stands : Entry) × IsFreeOf entries entry.deed at stands
    × (stands.owner ≡ owner) × (owner ≢ entry.owner)
SaysOfNew timetable entries entry (AlreadyFreed freer) =
    (at : ℕ) × (stands : Entry) × IsFreeOf entries entry.deed at stands
    × (stands.owner ≡ entry.owner) × (freed_by entries at ≡ Some freer)
SaysOfNew timetable entries entry Fresh = MayJoin timetable entries entry.owner entry.deed
SaysOfNew timetable entries entry other = ⊥

-- what a verdict says of an entry
abbrev pub Says : Timetable → List Entry → Entry → Verdict → Type 0
Says timetable entries entry (Kept at) = Repeats entries entry at × (freed_by entries at ≡ None)
Says timetable entries entry (Gone at freer) =
    Repeats entries entry at × (freed_by entries at ≡ Some freer)
Says timetable entries entry (Other at) = Differs entries entry at
Says timetable entries entry verdict =
    IsNew entries entry × SaysOfNew timetable entries entry verdict

-- not the verdict that a claim is taken
abbrev pub IsNotTaken : Verdict → Type 0
IsNotTaken (Taken claim owner) = ⊥
IsNotTaken other = Unit {0}
