use Rattle.std.proofs.Common.{◌≡◌, ◌++◌, drop, length, map}
use Rattle.blocking_time.specs.Runs.{block_at}
use Rattle.stairway_print.specs.Stairs.{cut_lines}
use Rattle.stairway_print.proofs.stairs.push_runs.Given as goal

abbrev pub invariant-runs : goal.invariant-runs
invariant-runs l = record {
  text : l.to.items ++ cut_lines l.number
      (map (λ run. length (block_at l.net run.block).cells) (drop l.run-index l.runs)) l.rest
      ≡ l.fn.to.items ++ cut_lines 0
      (map (λ run. length (block_at l.net run.block).cells) l.runs) l.claims;
  count : l.number ≡ l.run-index;
}
