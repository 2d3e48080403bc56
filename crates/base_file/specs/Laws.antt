-- Laws of overlaps and of bases.
use Rattle.std.specs.Prelude.{◌≡◌, ℕ, None, List}
use Rattle.rail_types.specs.declared.bases.Base.{Base}
use Rattle.rail_types.specs.declared.bases.BaseClaim.{BaseClaim}
use Rattle.rail_types.specs.declared.tracks.Network.{Network}
use Rattle.rail_types.specs.Flaws.{first_flaw}
use Rattle.rail_types.specs.Timetables.{IsTimetable, timetable_of}
use Rattle.base_file.specs.Overlaps.{AreOverlapping, IsFirstOverlap}
use Rattle.base_file.specs.Sound.{IsBaseOn}

-- one overlap at most is the first, and claims of a base have none
pub record FirstOverlapsAreOne : Type 0 where
  pub zone : (claims : List BaseClaim) (zone a b other c d : ℕ)
      → IsFirstOverlap claims zone a b → IsFirstOverlap claims other c d → zone ≡ other
  pub one : (claims : List BaseClaim) (zone a b other c d : ℕ)
      → IsFirstOverlap claims zone a b → IsFirstOverlap claims other c d → a ≡ c
  pub two : (claims : List BaseClaim) (zone a b other c d : ℕ)
      → IsFirstOverlap claims zone a b → IsFirstOverlap claims other c d → b ≡ d
  pub none : (zones : ℕ) (base : Base) (one other : BaseClaim)
      → IsBaseOn zones base → ¬ AreOverlapping base.claims one other

-- a base on the zones of a network without flaws makes a timetable
abbrev pub BasesMakeTimetables : Type 0
BasesMakeTimetables =
    (net : Network) (base : Base)
    → first_flaw net ≡ None → IsBaseOn net.zones base → IsTimetable (timetable_of net base)
