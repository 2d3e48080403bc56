use Rattle.std.proofs.Common.{◌≡◌, ◌++◌, ◌-◌, flat_map, length}
use Rattle.std.specs.List.{range_with_len}
use Rattle.blocking_time.specs.Stairway.{claims_of_path, claims_of_run}
use Rattle.blocking_time.specs.Indexed.{IsCursor}
use Rattle.blocking_time.proofs.stairways.stairway_of.Given as goal

-- the claims so far, then those of the runs that are left
abbrev pub invariant-loop-index : goal.invariant-loop-index
invariant-loop-index l = record {
  claims : l.claims.items ++ flat_map (claims_of_run l.net l.settings l.path) (range_with_len l.index (length l.path.runs - l.index)) ≡ claims_of_path l.net l.settings l.path;
  cursor : IsCursor l.net l.settings l.path l.index l.cursor;
}
