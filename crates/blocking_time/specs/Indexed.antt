-- Inside: the legs of a path by their numbers.
use Rattle.std.specs.Prelude.{◌≡◌, ℕ, ℤ, ◌-◌, ◌<◌, ◌≤◌, length, Option, Some, None, nat_eq}
use Rattle.std.specs.Prelude.{if◌then◌else◌, drop}
use Rattle.rail_types.specs.declared.tracks.Cell.{Cell}
use Rattle.rail_types.specs.declared.tracks.Network.{Network}
use Rattle.rail_types.specs.declared.entries.Settings.{Settings}
use Rattle.rail_types.specs.declared.paths.Path.{Path}
use Rattle.rail_types.specs.declared.paths.Claim.{Claim}
use Rattle.blocking_time.specs.declared.stairways.Cursor.{Cursor}
use Rattle.blocking_time.specs.Runs.{block_of, entry_at, run_at}
use Rattle.blocking_time.specs.Passages.{passage_of}
use Rattle.blocking_time.specs.Legs.{Leg, begin_of, claim_until, gone, legs_of}

abbrev pub leg_at : Network → Path → ℕ → Leg
leg_at net path index = record {
  block = block_of net path index;
  entry = entry_at net path index;
  run = run_at path index;
}

-- the leg ahead of the one of that number
abbrev pub leg_before : Network → Path → ℕ → Option Leg
leg_before net path index =
    if nat_eq index 0 then None else Some (leg_at net path (index - 1))

-- the claim of a cell of the run of that number
abbrev pub claim_by_legs : Network → Settings → Path → ℕ → Cell → Claim
claim_by_legs net settings path index cell =
    claim_until path.train settings
    (begin_of path.train settings
    (leg_before net path index)
    (leg_at net path index)
    (entry_at net path index))
    (run_at path (index - 1)).leave
    (drop index (legs_of net path))
    (passage_of path.train cell)

-- the tick at which the head has gone so many metres from the beginning of the leg of that number
abbrev pub gone_behind : Network → Settings → Path → ℕ → ℕ → ℤ
gone_behind net settings path index metres =
    gone path.train settings (run_at path (index - 1)).leave (drop index (legs_of net path)) metres

-- a run, and the metres to its beginning from that of the run of this number: what lies further
-- than these is reached as from there
pub record IsCursor
    (net : Network) (settings : Settings) (path : Path) (index : ℕ) (cursor : Cursor) : Type 0 where
  pub within : cursor.run ≤ length path.runs
  pub skips :
      (metres : ℕ) → cursor.metres < metres
      → gone_behind net settings path index metres
      ≡ gone_behind net settings path cursor.run (metres - cursor.metres)
