use Rattle.std.proofs.Common.{◌≡◌}
use Rattle.blocking_time.specs.Broken.{broken_run}
use Rattle.blocking_time.proofs.Searching.{found_from}
use Rattle.blocking_time.proofs.rules.first_of_runs.Given as goal

abbrev pub invariant-loop-index : goal.invariant-loop-index
invariant-loop-index l = found_from l.net l.settings l.path l.index ≡ broken_run l.net l.settings l.path
