-- Two trains over three zones, the second 94 ticks behind the first, and what is told of them.
use Rattle.std.specs.Prelude.{ℕ, pos, neg_ℤ, List, ◌++◌}
use Rattle.rail_types.specs.declared.entries.Owner.TheVariants.{Entry}
use Rattle.capacity_406.specs.declared.reports.Told.{Told}
use Rattle.capacity_406.specs.declared.trains.Link.{Link}
use Rattle.capacity_406.specs.declared.trains.Stretch.{Stretch}
use Rattle.capacity_406.specs.Report.{new_line}

-- the zones 0, 1 and 2, and a window from tick 0 on and before another
abbrev pub three_zones_before : ℕ → Stretch
three_zones_before to = record { first = 0; last = 2; from = 0; to = to }

-- the first train stays where it is
abbrev pub first_told : Told
first_told = record { owner = Entry 0; begin = pos 5; shift = pos 0 }

-- the second train is 61 ticks earlier
abbrev pub second_told : Told
second_told = record { owner = Entry 1; begin = pos 38; shift = neg_ℤ (pos 61) }

-- the chain starts where the first train does
abbrev pub first_link : Link
first_link = record { train = 0; zone = 0; at = pos 5 }

-- it ends where the first train leaves zone 1 to the second
abbrev pub second_link : Link
second_link = record { train = 1; zone = 1; at = pos 38 }

-- a text with a line end
abbrev pub ended_text : List ℕ → List ℕ
ended_text text = text ++ new_line
