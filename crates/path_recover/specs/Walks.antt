-- How the bytes behind the header are read.
use Rattle.std.specs.Prelude.{◌≡◌, ◌≢◌, ◌⊎◌, ℕ, ◌+◌, ◌<◌, ◌^◌, List, [], ◌∷◌, ◌++◌, length, All}
use Rattle.rail_types.specs.declared.entries.Entry.{Entry}
use Rattle.rail_types.specs.Timetables.{Timetable}
use Rattle.entry_codec.specs.Body.{body_of, kind_byte}
use Rattle.entry_codec.specs.Within.{HasBody}
use Rattle.byte_fields.specs.Unread.{Unread}
use Rattle.grant_log.specs.Legal.{IsLegal, Joins}
use Rattle.grant_journal.specs.Histories.{bodies_of, counted, opened}
use Rattle.path_recover.specs.declared.journal_reading.records.Next.{Next}
use Rattle.path_recover.specs.declared.journal_reading.records.Next.TheVariants.{Shut, Record}
use Rattle.path_recover.specs.declared.journal_reading.records.Next.TheVariants.{Broken}

-- a gate that isn't open stands here
pub record BeginsShut (left : List ℕ) : Type 0 where
  pub gate : ℕ
  pub rest : List ℕ
  pub split : left ≡ gate ∷ rest
  pub closed : gate ≢ 1

-- a whole record stands here: an open gate, the length, the body, and
-- behind it at least the next gate
pub record BeginsWhole (left body rest : List ℕ) : Type 0 where
  pub split : left ≡ 1 ∷ (counted body ++ rest)
  pub short : length body < 2 ^ 32
  pub next : rest ≢ []

-- neither stands here
pub record IsCut (left : List ℕ) : Type 0 where
  pub no_gate : ¬ BeginsShut left
  pub no_record : (body rest : List ℕ) → ¬ BeginsWhole left body rest

-- an entry that a journal of this version can have: version 1 has no holds with a reason
abbrev pub IsSpelledIn : ℕ → Entry → Type 0
IsSpelledIn version entry = HasBody entry × (version ≡ 1 → kind_byte entry.deed ≢ 5)

-- these entries stand here one behind the other, legal by the timetable, and the rest behind them;
-- behind an entry that is at least the next gate
pub record Passes (timetable : Timetable) (version : ℕ) (left : List ℕ) (entries : List Entry)
    (rest : List ℕ) : Type 0 where
  pub split : left ≡ opened (bodies_of entries) ++ rest
  pub short : All (λ body. length body < 2 ^ 32) (bodies_of entries)
  pub next : (entries ≡ []) ⊎ (rest ≢ [])
  pub spelled : All (IsSpelledIn version) entries
  pub legal : IsLegal timetable entries

-- behind these entries stands a gate that isn't open, at this offset; the
-- first byte has the offset `at`
pub record IsReadTo (timetable : Timetable) (version : ℕ) (left : List ℕ) (at : ℕ)
    (entries : List Entry) (gate : ℕ) : Type 0 where
  pub rest : List ℕ
  pub passes : Passes timetable version left entries rest
  pub shut : BeginsShut rest
  pub place : gate ≡ at + length (opened (bodies_of entries))

-- behind some entries, at this offset, stands neither a gate that isn't open
-- nor a whole record of an entry
pub record IsDamagedAt (timetable : Timetable) (version : ℕ) (left : List ℕ)
    (at gate : ℕ) : Type 0 where
  pub entries : List Entry
  pub rest : List ℕ
  pub passes : Passes timetable version left entries rest
  pub no_gate : ¬ BeginsShut rest
  pub no_entry : (entry : Entry) (behind : List ℕ) → IsSpelledIn version entry →
      ¬ BeginsWhole rest (body_of entry) behind
  pub place : gate ≡ at + length (opened (bodies_of entries))

-- behind so many entries stands one that doesn't join them
pub record IsIllegalAt (timetable : Timetable) (version : ℕ) (left : List ℕ)
    (position : ℕ) : Type 0 where
  pub entries : List Entry
  pub rest : List ℕ
  pub passes : Passes timetable version left entries rest
  pub entry : Entry
  pub behind : List ℕ
  pub whole : BeginsWhole rest (body_of entry) behind
  pub spelled : IsSpelledIn version entry
  pub stale : ¬ Joins timetable entries entry
  pub place : position ≡ length entries

-- What stands next: a gate that isn't open; a whole record of an entry, and the
-- reader is behind it; or neither.
abbrev pub NextIs : ℕ → Unread → Unread → Next → Type 0
NextIs version old new Shut = BeginsShut old.left
NextIs version old new (Record entry) =
    BeginsWhole old.left (body_of entry) new.left × IsSpelledIn version entry
    × (new.at ≡ old.at + (length (body_of entry) + 5))
NextIs version old new Broken =
    (¬ BeginsShut old.left)
    × ((entry : Entry) (behind : List ℕ) → IsSpelledIn version entry →
    ¬ BeginsWhole old.left (body_of entry) behind)
