use Rattle.std.proofs.Common.{◌≡◌}
use Rattle.std.specs.Prelude.{pos}
use Rattle.rail_types.specs.declared.entries.Owner.TheVariants.{Base}
use Rattle.capacity_406.specs.Compression.{shift_of}
use Rattle.capacity_406.specs.Inside.{first_of}
use Rattle.capacity_406.specs.Telling.{told_by}
use Rattle.capacity_406.specs.Trains.{owner_of}
use Rattle.capacity_406.proofs.Rows.{IsEach}
use Rattle.capacity_406.proofs.reports.told_of.Given as goal

-- the trains so far are told
abbrev pub invariant-loop-train : goal.invariant-loop-train
invariant-loop-train l = IsEach (λ train told. told ≡ told_by (owner_of l.trains train) (first_of l.firsts train) (shift_of l.shifts train)) (record { owner = Base 0; begin = pos 0; shift = pos 0 }) l.train l.told.items
