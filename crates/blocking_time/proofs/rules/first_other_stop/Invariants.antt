use Rattle.std.proofs.Common.{◌≡◌, ◌-◌, find, length}
use Rattle.std.specs.List.{range_with_len}
use Rattle.blocking_time.specs.Runs.{run_numbers}
use Rattle.blocking_time.specs.Rules.{rule_11, stops_before}
use Rattle.blocking_time.specs.Broken.{breaks_request}
use Rattle.blocking_time.proofs.rules.first_other_stop.Given as goal

abbrev pub invariant-loop-index : goal.invariant-loop-index
invariant-loop-index l = record {
  made : l.made ≡ stops_before l.path l.index;
  rest : find (breaks_request l.net l.request l.path rule_11) (range_with_len l.index (length l.path.runs - l.index)) ≡ find (breaks_request l.net l.request l.path rule_11) (run_numbers l.path);
}
