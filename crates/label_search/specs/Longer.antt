-- Inside: a span that is made longer.
use Rattle.std.specs.Prelude.{◌≡◌, ℕ, ◌<◌, ◌+◌, List, length, slice_index_or, slice_set}
use Rattle.rail_types.specs.declared.paths.Span.{Span}

-- the span before the number ends as another begins, and is as long as both in the new list
pub record IsLonger (old : List Span) (at : ℕ) (span : Span) (new : List Span) : Type 0 where
  pub before : ℕ
  pub next : at ≡ before + 1
  pub within : before < length old
  pub one : Span
  pub is : (other : Span) → slice_index_or old before other ≡ one
  pub touches : one.to ≡ span.from
  pub longer : new ≡ slice_set old before (record { from = one.from; to = span.to })
