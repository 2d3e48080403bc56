-- Inside: what is carried, with the claims that are live in it.
use Rattle.std.specs.Prelude.{◌≡◌, ℕ, ◌+◌, ◌<◌, ◌^◌, List, length, All}
use Rattle.path_recover.specs.spelling.Body.{body_of}
use Rattle.path_recover.specs.spelling.Within.{HasBody}
use Rattle.path_recover.specs.journal.Histories.{bodies_of, front_of}
use Rattle.path_recover.specs.history.declared.verdicts.Verdict.{Verdict}
use Rattle.path_recover.specs.history.declared.verdicts.Verdict.TheVariants.{BreaksRequest, Taken}
use Rattle.path_recover.specs.history.declared.verdicts.Verdict.TheVariants.{Fresh}
use Rattle.path_recover.specs.history.Following.{AreLive}
use Rattle.path_recover.specs.history.Legal.{IsInRange}
use Rattle.path_recover.specs.history.Meanings.{IsNew}
use Rattle.path_recover.specs.claims.Held.{held}
use Rattle.rail_types.specs.declared.entries.Entry.{Entry}
use Rattle.rail_types.specs.declared.entries.Owner.TheVariants.{Base as of_train, Entry as of_entry}
use Rattle.rail_types.specs.Timetables.{Timetable}
use Rattle.carry_command.specs.Carried.{entries_at, IsCarriedTo, IsLiveAt}
use Rattle.carry_command.specs.declared.carried_history.joining.Carrying.{Carrying}

-- what a hold or a grant with a new number may be told by so many entries
abbrev pub IsToldNew : ℕ → Verdict → Type 0
IsToldNew count Fresh = Unit {0}
IsToldNew count (BreaksRequest rule) = Unit {0}
IsToldNew count (Taken claim (of_train train)) = Unit {0}
IsToldNew count (Taken claim (of_entry place)) = place < count
IsToldNew count verdict = ⊥

-- the entries that were carried of a history
abbrev pub carried_of : List Entry → Carrying → List Entry
carried_of old carrying = entries_at old carrying.kept.items

-- The first so many entries of a history are carried, or left out; and the book has the claims that
-- are live in those carried, each of which has a body.
pub record HasCarried (timetable : Timetable) (old : List Entry) (front : ℕ) (carrying : Carrying)
    : Type 0 where
  pub carried :
      IsCarriedTo timetable old front (carried_of old carrying) carrying.kept.items
      carrying.left.items
  pub live : AreLive timetable (held carrying.book) (carried_of old carrying)
  pub zones : length carrying.book ≡ timetable.net.zones
  pub has : All HasBody (carried_of old carrying)

-- the bytes are a journal behind this header, up to the next gate
abbrev pub IsSpelled : List ℕ → List Entry → Carrying → Type 0
IsSpelled header old carrying =
    carrying.file.held ≡ front_of header (bodies_of (carried_of old carrying))

-- the entry that is next: it is live at this position, behind those that were carried or left out
pub record IsNext (timetable : Timetable) (old : List Entry) (at : ℕ) (carrying : Carrying)
    (entry : Entry) : Type 0 where
  pub carried : HasCarried timetable old at carrying
  pub live : IsLiveAt old at entry
  pub in_range : IsInRange timetable entry
  pub new : IsNew (carried_of old carrying) entry
  pub short : length (body_of entry) < 2 ^ 32

-- one entry more is carried, or left out; and what was spelled behind a header still is
pub record CarriesOn (timetable : Timetable) (old : List Entry) (at : ℕ) (before after : Carrying)
    : Type 0 where
  pub carried : HasCarried timetable old (at + 1) after
  pub spelled : (header : List ℕ) → IsSpelled header old before → IsSpelled header old after
