-- What rules say.
use Rattle.std.specs.Prelude.{ℕ, ◌-◌, ℤ, ◌≤ℤ◌, ◌<ℤ◌, Bool, not, ◌&&◌, int_le, int_lt, nat_le}
use Rattle.std.specs.Prelude.{nat_lt, List, [], ◌∷◌, slice_index_or}
use Rattle.rail_types.specs.declared.paths.Window.{Window}
use Rattle.admission_rules.specs.declared.rule_names.RuleName.{RuleName}
use Rattle.admission_rules.specs.declared.rule_names.RuleName.TheVariants.{Quota, Curfew, Longest}
use Rattle.admission_rules.specs.declared.rules.Wish.{Wish}
use Rattle.admission_rules.specs.declared.tallies.Tally.{Tally}
use Rattle.admission_rules.specs.Tallies.{with_free, with_grant}

-- A rule's name, and what follows from the numbers that it keeps: whether a wish is
-- allowed, the numbers once it was told of a grant, or of a grant that was freed, and
-- how often it was told of each.
pub record Sense : Type 0 where
  pub name : RuleName
  pub allows : List ℕ → Wish → Bool
  pub after_grant : List ℕ → Wish → List ℕ
  pub after_free : List ℕ → Wish → List ℕ
  pub tally : List ℕ → Tally

-- ---- rules that keep their tally alone

-- a tally as the numbers that a rule keeps, and the other way round
abbrev pub numbers_of : Tally → List ℕ
numbers_of tally = tally.granted ∷ tally.freed ∷ []

abbrev pub tally_of : List ℕ → Tally
tally_of numbers =
    record { granted = slice_index_or numbers 0 0; freed = slice_index_or numbers 1 0 }

-- a rule of this name that keeps its tally alone, and allows what it says by it
abbrev pub by_tally : RuleName → (Tally → Wish → Bool) → Sense
by_tally name allows =
    record {
      name = name;
      allows = λ numbers wish. allows (tally_of numbers) wish;
      after_grant = λ numbers wish. numbers_of (with_grant (tally_of numbers));
      after_free = λ numbers wish. numbers_of (with_free (tally_of numbers));
      tally = tally_of;
    }

-- ---- the three rules

-- fewer paths than the limit are granted and not freed
abbrev pub quota : ℕ → Sense
quota limit = by_tally Quota (λ tally wish. nat_lt (tally.granted - tally.freed) limit)

-- a tick of the window, from `from` up to and without `to`
abbrev pub HoldsTick : Window → ℤ → ℤ → Type 0
HoldsTick window from to =
    (tick : ℤ) × (window.from ≤ℤ tick) × (tick ≤ℤ window.to) × (from ≤ℤ tick) × (tick <ℤ to)

-- whether the window holds such a tick
abbrev pub holds_tick : Window → ℤ → ℤ → Bool
holds_tick window from to =
    int_le window.from window.to && int_lt from to && int_lt window.from to
    && int_le from window.to

-- the window of departure holds no tick of the curfew
abbrev pub curfew : ℤ → ℤ → Sense
curfew from to = by_tally Curfew (λ tally wish. not (holds_tick wish.depart from to))

-- the train is not longer
abbrev pub longest : ℕ → Sense
longest metres = by_tally Longest (λ tally wish. nat_le wish.length_m metres)
