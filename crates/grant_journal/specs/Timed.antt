-- A journal with the moments at which its entries were settled, as its callers see it.
use Rattle.std.specs.Prelude.{ℕ, ◌+◌, List, length}
use Rattle.grant_journal.specs.Gates.{Gated}

-- the journal, the moment of the making, how many entries stood in it then, the moment at which
-- each later entry was settled, and for how many more moments there is room
pub record Timed (D : Type 0) : Type 0 where
  pub journal : Gated D
  pub made : ℕ
  pub found : ℕ
  pub moments : List ℕ
  pub spare : ℕ

-- how many entries are settled
abbrev pub settled_of : {D : Type 0} → Timed D → ℕ
settled_of timed = timed.found + length timed.moments
