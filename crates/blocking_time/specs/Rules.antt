-- The rules of paths, and which run breaks them. Runs are numbered from 0, rules from 1.
use Rattle.std.specs.Prelude.{◌≡◌, ◌≢◌, ◌⊎◌, ℕ, ◌+◌, ◌-◌, ◌<◌, ◌≤◌, ℤ, pos, ◌+ℤ◌, ◌<ℤ◌, Bool, true}
use Rattle.std.specs.Prelude.{false, [], length, take, count_by, slice_index_or, Contains}
use Rattle.rail_types.specs.declared.tracks.Network.{Network}
use Rattle.rail_types.specs.declared.trains.Request.{Request}
use Rattle.rail_types.specs.declared.trains.Stop.{Stop}
use Rattle.rail_types.specs.declared.entries.Settings.{Settings}
use Rattle.rail_types.specs.declared.paths.Path.{Path}
use Rattle.rail_types.specs.declared.paths.Window.{Window}
use Rattle.blocking_time.specs.Runs.{block_of, reached_at, run_at}

-- the rules of runs, which every path is held to
pub data RunRule : Type 0 where
  rule_1 : RunRule
  rule_2 : RunRule
  rule_3 : RunRule
  rule_4 : RunRule
  rule_5 : RunRule
  rule_6 : RunRule

-- the rules of a request, which a path that was asked for is held to besides
pub data AskedRule : Type 0 where
  rule_7 : AskedRule
  rule_8 : AskedRule
  rule_9 : AskedRule
  rule_10 : AskedRule
  rule_11 : AskedRule
  rule_12 : AskedRule

abbrev pub IsLast : Path → ℕ → Type 0
IsLast path k = k + 1 ≡ length path.runs

-- the block of a run does not begin where the block of the run before ends
abbrev pub DoesNotFollow : Network → Path → ℕ → Type 0
DoesNotFollow net path k =
    (1 ≤ k) × ((block_of net path k).from_point ≢ (block_of net path (k - 1)).to_point)

-- the head reaches the block's end at another tick than after its running time
abbrev pub IsNotTimed : Network → Settings → Path → ℕ → Type 0
IsNotTimed net settings path k =
    (run_at path k).leave ≢ reached_at net settings path k (block_of net path k).length_m

-- a train that left a block at a tick, and stopped at its end or did not, enters the next at
-- another tick, or earlier where it stopped
abbrev pub EntersWrongly : ℤ → Bool → ℤ → Type 0
EntersWrongly left true enter = enter <ℤ left
EntersWrongly left false enter = enter ≢ left

-- a run breaks a rule of runs
abbrev pub Breaks : Network → Settings → Path → RunRule → ℕ → Type 0
Breaks net settings path rule_1 k = DoesNotFollow net path k
Breaks net settings path rule_2 k = IsNotTimed net settings path k
Breaks net settings path rule_3 k =
    (1 ≤ k)
    × EntersWrongly (run_at path (k - 1)).leave (run_at path (k - 1)).stops (run_at path k).enter
Breaks net settings path rule_4 k = IsLast path k × ((run_at path k).stops ≡ false)
Breaks net settings path rule_5 k =
    ((run_at path k).enter <ℤ pos 0) ⊎ (pos settings.horizon <ℤ (run_at path k).leave)
Breaks net settings path rule_6 k =
    (k + 1 < length path.runs) × ((run_at path k).stops ≡ true)
    × ((block_of net path k).serves ≡ [])

-- the block of a run serves an operational point
abbrev pub Serves : Network → Path → ℕ → ℕ → Type 0
Serves net path k stop = Contains (block_of net path k).serves stop

-- a tick is none of a window, which holds both its ends
abbrev pub IsOutside : Window → ℤ → Type 0
IsOutside window tick = (tick <ℤ window.from) ⊎ (window.to <ℤ tick)

-- how many stops a path makes before the run of that number
abbrev pub stops_before : Path → ℕ → ℕ
stops_before path k = count_by (λ run. run.stops) (take k path.runs)

-- the named stop of that number
abbrev pub named_stop : Request → ℕ → Stop
named_stop request j = slice_index_or request.stops j (record { stop = 0; dwell = 0 })

-- a run ends with the stop of number j that is one too many, on a block that does not serve the
-- named one, or left before its dwell
abbrev pub StopsWrongly : Network → Request → Path → ℕ → ℕ → Type 0
StopsWrongly net request path k j =
    (length request.stops ≤ j)
    ⊎ ((¬ Serves net path k (named_stop request j).stop)
    ⊎ ((run_at path (k + 1)).enter <ℤ ((run_at path k).leave +ℤ pos (named_stop request j).dwell)))

-- a stop before the last run is wrong; or stops are missing before the last run
abbrev pub MakesOtherStops : Network → Request → Path → ℕ → Type 0
MakesOtherStops net request path k =
    ((k + 1 < length path.runs) × ((run_at path k).stops ≡ true)
    × StopsWrongly net request path k (stops_before path k))
    ⊎ (IsLast path k × (stops_before path k < length request.stops))

-- a run breaks a rule of the request
abbrev pub BreaksRequest : Network → Request → Path → AskedRule → ℕ → Type 0
BreaksRequest net request path rule_7 k = (k ≡ 0) × (¬ Serves net path k request.origin)
BreaksRequest net request path rule_8 k = IsLast path k × (¬ Serves net path k request.destination)
BreaksRequest net request path rule_9 k =
    (k ≡ 0) × IsOutside request.depart (run_at path k).enter
BreaksRequest net request path rule_10 k =
    IsLast path k × IsOutside request.arrive (run_at path k).leave
BreaksRequest net request path rule_11 k = MakesOtherStops net request path k
BreaksRequest net request path rule_12 k = (k ≡ 0) × (path.train ≢ request.train)

-- a path that keeps the rules of runs
abbrev pub KeepsRunRules : Network → Settings → Path → Type 0
KeepsRunRules net settings path =
    (k : ℕ) (rule : RunRule) → k < length path.runs → ¬ Breaks net settings path rule k

-- a path that keeps the rules of a request
abbrev pub KeepsRequestRules : Network → Request → Path → Type 0
KeepsRequestRules net request path =
    (k : ℕ) (rule : AskedRule) → k < length path.runs → ¬ BreaksRequest net request path rule k
