-- How often a rule was told.
use Rattle.std.specs.Prelude.{ℕ, ◌+◌, ◌-◌, ◌^◌, min}
use Rattle.admission_rules.specs.declared.tallies.Tally.{Tally}

-- one more, but that the greatest number stays
abbrev pub one_more : ℕ → ℕ
one_more count = min (count + 1) (2 ^ 64 - 1)

-- a tally of zeros
abbrev pub no_tally : Tally
no_tally = record { granted = 0; freed = 0 }

-- the tally with one grant more
abbrev pub with_grant : Tally → Tally
with_grant tally = record { granted = one_more tally.granted; freed = tally.freed }

-- the tally with one freed more
abbrev pub with_free : Tally → Tally
with_free tally = record { granted = tally.granted; freed = one_more tally.freed }
