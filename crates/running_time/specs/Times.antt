-- How long a train takes for metres of a block: distance at the lesser speed with the train's
-- allowance, and what braking and acceleration cost besides, in ticks.
use Rattle.std.specs.Prelude.{ℕ, ◌+◌, ◌-◌, ◌*◌, min, max, if◌then◌else◌, nat_eq, nat_le}
use Rattle.std.specs.Int.{div_ceil}
use Rattle.rail_types.specs.declared.tracks.Block.{Block}
use Rattle.rail_types.specs.declared.trains.Train.{Train}
use Rattle.rail_types.specs.declared.entries.Settings.{Settings}
use Rattle.running_time.specs.declared.edges.Enter.{Enter}
use Rattle.running_time.specs.declared.edges.Enter.TheVariants.{Still, From}
use Rattle.running_time.specs.declared.edges.Edge.{Edge}
use Rattle.running_time.specs.declared.edges.Edge.TheVariants.{Still as Halted, Rolling}

-- the speed at which a train rolls through a block, in millimetres a second
abbrev pub lesser_speed : Block → Train → ℕ
lesser_speed block train = min train.speed block.speed

-- seconds for metres of a block at that speed, with the train's allowance
abbrev pub rolling_seconds : Block → Train → ℕ → ℕ
rolling_seconds block train metres =
    div_ceil (1000 * metres * (100 + train.allowance)) (100 * lesser_speed block train)

-- seconds lost by a change of speed, none where it stays; accelerating and braking
-- both count in the block entered
abbrev pub change_seconds : Train → ℕ → ℕ → ℕ
change_seconds train before now =
    if nat_le before now then div_ceil ((now - before) * (now - before)) (2 * train.accel * now)
    else div_ceil ((before - now) * (before - now)) (2 * train.brake * before)

-- seconds lost at the block's beginning: from stand, or by the change from
-- the speed in the block before
abbrev pub entry_seconds : Block → Train → Settings → Enter → ℕ
entry_seconds block train settings Still = div_ceil (lesser_speed block train) (2 * train.accel)
entry_seconds block train settings (From before) =
    if settings.speed_loss then change_seconds train before (lesser_speed block train) else 0

-- seconds lost at the block's end, where the train stops there
abbrev pub exit_seconds : Block → Train → Edge → ℕ
exit_seconds block train Halted = div_ceil (lesser_speed block train) (2 * train.brake)
exit_seconds block train Rolling = 0

-- seconds in ticks, rounded up, at least one
abbrev pub ticks_of : Settings → ℕ → ℕ
ticks_of settings seconds = max (div_ceil seconds settings.tick_s) 1

-- ticks for the first metres of a block, with the losses of the whole run
unfoldable pub part_ticks : Block → Train → Settings → Enter → Edge → ℕ → ℕ
part_ticks block train settings entry exit metres =
    ticks_of settings
    (rolling_seconds block train metres
    + entry_seconds block train settings entry
    + exit_seconds block train exit)

-- ticks for the whole block
abbrev pub run_ticks : Block → Train → Settings → Enter → Edge → ℕ
run_ticks block train settings entry exit =
    part_ticks block train settings entry exit block.length_m

-- ticks in which a rolling train passes the block's sight distance, without losses
unfoldable pub sight_ticks : Block → Train → Settings → ℕ
sight_ticks block train settings =
    if nat_eq block.sight_m 0 then 0
    else ticks_of settings (rolling_seconds block train block.sight_m)
