-- The file of a journal that is read while a server writes to it.
use Rattle.std.specs.Prelude.{◌≡◌, ℕ, ◌+◌, ◌≤◌, List, [], ◌∷◌, ◌++◌, Some, length, slice_get}
use Rattle.rail_types.specs.declared.entries.Entry.{Entry}
use Rattle.rail_types.specs.Timetables.{Timetable}
use Rattle.path_recover.specs.Files.{TellsHistory}

-- these bytes were read of a file, which holds at each moment what `file` says, from this place on:
-- each at a moment of its own, none before the moment of a byte in front of it, the first no
-- earlier than `from` and the last no later than `to`
abbrev pub IsSeen : (ℕ → List ℕ) → ℕ → ℕ → ℕ → List ℕ → Type 0
IsSeen file at from to [] = from ≤ to
IsSeen file at from to (byte ∷ more) =
    (moment : ℕ) × (from ≤ moment) × (slice_get (file moment) at ≡ Some byte)
    × IsSeen file (at + 1) moment to more

-- the file was read from its first byte on to its end: at the last moment it had no more bytes
pub record IsSeenWhole (file : ℕ → List ℕ) (from to : ℕ) (seen : List ℕ) : Type 0 where
  pub bytes : IsSeen file 0 from to seen
  pub end : length (file to) ≤ length seen

-- a list goes on as another
pub record GoesOn {T : Type 0} (before now : List T) : Type 0 where
  pub more : List T
  pub split : now ≡ before ++ more

-- From one moment to another a file tells a history, and later the same with none or more entries
-- behind it. What stands behind the first gate that isn't open may be any bytes, and change.
pub record IsServed (timetable : Timetable) (version : ℕ) (network base : List ℕ) (from to : ℕ)
    (file : ℕ → List ℕ) (entries : ℕ → List Entry) : Type 0 where
  pub tells : (moment : ℕ) → from ≤ moment → moment ≤ to
      → TellsHistory timetable version network base (file moment) (entries moment)
  pub grows : (moment later : ℕ) → from ≤ moment → moment ≤ later → later ≤ to
      → GoesOn (entries moment) (entries later)

-- bytes tell the history of one moment
pub record ToldOnce (timetable : Timetable) (version : ℕ) (network base : List ℕ) (from to : ℕ)
    (entries : ℕ → List Entry) (seen : List ℕ) : Type 0 where
  pub moment : ℕ
  pub begun : from ≤ moment
  pub ended : moment ≤ to
  pub tells : TellsHistory timetable version network base seen (entries moment)
