use Rattle.std.proofs.Common.{◌≡◌, ◌++◌, flat_map, take}
use Rattle.batch_command.specs.Ends.{worker_lines}
use Rattle.batch_command.proofs.batch_reports.texts.push_workers.Given as goal

abbrev pub invariant-loop-one : goal.invariant-loop-one
invariant-loop-one g l =
    l.text.held ≡ l.fn.text.held ++ flat_map (worker_lines g.L.Rule) (take l.one-index l.worked)
