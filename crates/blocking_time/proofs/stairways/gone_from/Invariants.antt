use Rattle.std.proofs.Common.{◌≡◌, ◌-◌, drop}
use Rattle.blocking_time.specs.Legs.{gone, legs_of}
use Rattle.blocking_time.specs.Runs.{run_at}
use Rattle.blocking_time.proofs.stairways.gone_from.Given as goal

-- the metres that are left from this run on end where all did from the first
abbrev pub invariant-loop-at : goal.invariant-loop-at
invariant-loop-at l = gone l.path.train l.settings (run_at l.path (l.at - 1)).leave (drop l.at (legs_of l.net l.path)) l.left ≡ gone l.path.train l.settings (run_at l.path (l.index - 1)).leave (drop l.index (legs_of l.net l.path)) l.metres
