-- Labels as contracts see them.
use Rattle.std.specs.Prelude.{ℕ, List}
use Rattle.label_search.specs.declared.labels.Label.{Label}

-- the labels, and how many places there are
pub record Known : Type 0 where
  pub labels : List Label
  pub places : ℕ
