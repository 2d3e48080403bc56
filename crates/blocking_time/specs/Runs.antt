-- The runs of a path by their numbers, from 0, with their blocks.
use Rattle.std.specs.Prelude.{ℕ, ◌-◌, ℤ, pos, ◌+ℤ◌, Bool, true, false, ◌||◌, nat_eq, List, []}
use Rattle.std.specs.Prelude.{length, slice_index_or}
use Rattle.std.specs.List.{range_with_len}
use Rattle.rail_types.specs.declared.tracks.Block.{Block}
use Rattle.rail_types.specs.declared.tracks.Network.{Network}
use Rattle.rail_types.specs.declared.trains.Train.{Train}
use Rattle.rail_types.specs.declared.entries.Settings.{Settings}
use Rattle.rail_types.specs.declared.paths.Run.{Run}
use Rattle.rail_types.specs.declared.paths.Path.{Path}
use Rattle.running_time.specs.declared.edges.Enter.{Enter}
use Rattle.running_time.specs.declared.edges.Enter.TheVariants.{Still, From}
use Rattle.running_time.specs.declared.edges.Edge.{Edge}
use Rattle.running_time.specs.declared.edges.Edge.TheVariants.{Still as Halted, Rolling}
use Rattle.running_time.specs.Times.{lesser_speed, part_ticks}

-- the block of that number; one of no length where there is none
abbrev pub block_at : Network → ℕ → Block
block_at net number =
    slice_index_or net.blocks number
    (record {
      length_m = 0;
      speed = 0;
      sight_m = 0;
      cells = [];
      from_point = 0;
      to_point = 0;
      serves = [];
    })

-- the numbers of the runs of a path
abbrev pub run_numbers : Path → List ℕ
run_numbers path = range_with_len 0 (length path.runs)

-- the run of that number
abbrev pub run_at : Path → ℕ → Run
run_at path k =
    slice_index_or path.runs k (record { block = 0; enter = pos 0; leave = pos 0; stops = false })

-- the block of the run of that number
abbrev pub block_of : Network → Path → ℕ → Block
block_of net path k = block_at net (run_at path k).block

-- how a train leaves a block at whose end it stops, or does not
abbrev pub exit_of : Bool → Edge
exit_of true = Halted
exit_of false = Rolling

-- how a train enters the block behind this one, at whose end it stopped, or did not
abbrev pub entry_behind : Train → Block → Bool → Enter
entry_behind train block true = Still
entry_behind train block false = From (lesser_speed block train)

-- whether a run begins from stand: the first run, and each behind a stop
abbrev pub is_from_stand : Path → ℕ → Bool
is_from_stand path k = nat_eq k 0 || (run_at path (k - 1)).stops

-- how the run of that number is entered
abbrev pub entry_at : Network → Path → ℕ → Enter
entry_at net path k =
    entry_behind path.train (block_of net path (k - 1)) (is_from_stand path k)

-- the tick at which the head has gone so many metres into the block of the run of that number
abbrev pub reached_at : Network → Settings → Path → ℕ → ℕ → ℤ
reached_at net settings path k metres =
    (run_at path k).enter
    +ℤ pos
    (part_ticks (block_of net path k) path.train settings
    (entry_at net path k)
    (exit_of (run_at path k).stops)
    metres)
