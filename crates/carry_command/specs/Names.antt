-- The names that `carry` is given.
use Rattle.std.specs.Prelude.{ℕ, List, Option}

-- the names of the network's file, the base timetable's and the new journal, of the old journal and
-- the base timetable's file to which it belongs, and of the file for the lines of entries that are
-- left out, where such may be
pub record Names : Type 0 where
  pub network : List ℕ
  pub base : List ℕ
  pub journal : List ℕ
  pub from : List ℕ
  pub from_base : List ℕ
  pub left : Option (List ℕ)
