-- The blocking-time stairway of a path (Pachl, Railway Operation and Control: blocking time): how
-- long each zone is blocked for a train, from setting its route and the approach, over the
-- running, to clearing and release.
use Rattle.std.specs.Prelude.{ℕ, ◌+◌, ◌-◌, ℤ, pos, ◌+ℤ◌, ◌-ℤ◌, List, length, map, sum_by, find}
use Rattle.std.specs.Prelude.{flat_map, Option, Some, None, nat_le, if◌then◌else◌}
use Rattle.std.specs.List.{range_with_len, between}
use Rattle.rail_types.specs.declared.tracks.Cell.{Cell}
use Rattle.rail_types.specs.declared.tracks.Network.{Network}
use Rattle.rail_types.specs.declared.entries.Settings.{Settings}
use Rattle.rail_types.specs.declared.paths.Claim.{Claim}
use Rattle.rail_types.specs.declared.paths.Path.{Path}
use Rattle.running_time.specs.Times.{sight_ticks}
use Rattle.blocking_time.specs.Runs.{block_at, block_of, is_from_stand, reached_at, run_at}
use Rattle.blocking_time.specs.Runs.{run_numbers}

-- setting and approach: the tick from which the zones of a run are blocked. Its route is set before
-- the train starts; and for a train that rolls in, before it starts in the run before, or before it
-- sees the signal ahead of that block
abbrev pub blocked_from : Network → Settings → Path → ℕ → ℤ
blocked_from net settings path k =
    if is_from_stand path k then (run_at path k).enter -ℤ pos settings.setting
    else if is_from_stand path (k - 1) then (run_at path (k - 1)).enter -ℤ pos settings.setting
    else
    (run_at path (k - 1)).enter -ℤ pos settings.setting
    -ℤ pos (sight_ticks (block_of net path (k - 1)) path.train settings)

-- the metres of the blocks of the runs from one on and before another
abbrev pub metres_between : Network → Path → ℕ → ℕ → ℕ
metres_between net path k m =
    sum_by (λ run. (block_at net run.block).length_m) (between k m path.runs)

-- running: the first run from this one on, at whose end the head has gone so many
-- metres from this one's beginning
abbrev pub run_in_which_gone : Network → Path → ℕ → ℕ → Option ℕ
run_in_which_gone net path k metres =
    find (λ m. nat_le metres (metres_between net path k (m + 1)))
    (range_with_len k (length path.runs - k))

-- the tick at which the head has gone so many metres in that run, or leaves the
-- last run where there is none
abbrev pub gone_in : Network → Settings → Path → ℕ → ℕ → Option ℕ → ℤ
gone_in net settings path k metres None = (run_at path (length path.runs - 1)).leave
gone_in net settings path k metres (Some m) =
    reached_at net settings path m (metres - metres_between net path k m)

-- the tick at which the head has gone so many metres from the beginning of a run
abbrev pub gone_at : Network → Settings → Path → ℕ → ℕ → ℤ
gone_at net settings path k metres =
    gone_in net settings path k metres (run_in_which_gone net path k metres)

-- clearing and release: a zone is blocked until the head is one train length past
-- the release point, and released
abbrev pub claim_at : Network → Settings → Path → ℕ → Cell → Claim
claim_at net settings path k cell = record {
  zone = cell.zone;
  span = record {
    from = blocked_from net settings path k;
    to =
        gone_at net settings path k (cell.release_m + path.train.length_m)
        +ℤ pos settings.release;
  };
}

-- the claims of a run, cell by cell
abbrev pub claims_of_run : Network → Settings → Path → ℕ → List Claim
claims_of_run net settings path k = map (claim_at net settings path k) (block_of net path k).cells

-- the stairway of a path, by run, then cell
abbrev pub claims_of_path : Network → Settings → Path → List Claim
claims_of_path net settings path = flat_map (claims_of_run net settings path) (run_numbers path)
