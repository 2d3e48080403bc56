-- No step takes longer than the longest block at the least speed.
use Rattle.std.proofs.Common.{◌≡◌, ℕ, suc, ◌+◌, ◌-◌, ◌*◌, ◌<◌, ◌≤◌, Bool, true, false, nat_le, if◌then◌else◌, inl, inr, arith}
use Rattle.std.specs.Prelude.{nat_eq}
use Rattle.std.specs.Int.{div_ceil}
use Rattle.std.proofs.Math.Nat.{mul-le-mul_left, mul-le-mul_right, suc-mul}
use Rattle.std.proofs.lemmas.Bool.{cases_lt}
use Rattle.std.proofs.lemmas.Grind.{div_ceil_times}
use Rattle.rail_types.specs.declared.tracks.Block.{Block}
use Rattle.rail_types.specs.declared.trains.Train.{Train}
use Rattle.rail_types.specs.declared.entries.Settings.{Settings}
use Rattle.rail_types.specs.Limits.{IsBlockWithinLimits, IsTrainWithinLimits, IsSettingsWithinLimits}
use Rattle.running_time.specs.declared.edges.Enter.{Enter}
use Rattle.running_time.specs.declared.edges.Enter.TheVariants.{Still, From}
use Rattle.running_time.specs.declared.edges.Edge.{Edge}
use Rattle.running_time.specs.declared.edges.Edge.TheVariants.{Still as Halted, Rolling}
use Rattle.running_time.specs.Limits.{IsEnterWithinLimits}
use Rattle.running_time.specs.Times.{lesser_speed, rolling_seconds, change_seconds, entry_seconds, exit_seconds, ticks_of, part_ticks, sight_ticks}

-- a quotient rounded up is at most what times the divisor is no less than what is divided
ceil_within : (a b q : ℕ) → 0 < b → a ≤ q * b → div_ceil a b ≤ q
ceil_within a b q some within = elim (cases_lt q (div_ceil a b)) [
  | inl more ↦
      let low = div_ceil_times a b some in
      let times : suc q * b ≤ div_ceil a b * b = mul-le-mul_right b (omega arith) in
      let one : suc q * b ≡ q * b + b = suc-mul q b in
      absurd (omega (arith, low.1, times, one, within))
  | inr less ↦ less
]

ceil_small : (a b : ℕ) → 0 < b → div_ceil a b ≤ a
ceil_small a b some =
    let enough : a * 1 ≤ a * b = mul-le-mul_left a some in
    let single : a * 1 ≡ a = omega arith in
    ceil_within a b a some (omega (arith, enough, single))

-- a square over a number no less than its root
square_small : (d n : ℕ) → 0 < n → d ≤ n → div_ceil (d * d) n ≤ d
square_small d n some less = ceil_within (d * d) n d some (mul-le-mul_left d less)

module _ (block : Block) (train : Train) (settings : Settings) (has : IsBlockWithinLimits block) (fits : IsTrainWithinLimits train) (timetable : IsSettingsWithinLimits settings) where
  speed_is : (1 ≤ lesser_speed block train) × (lesser_speed block train ≤ 200000)
  speed_is = let a = has.speed.0 in let b = fits.speed.0 in let c = fits.speed.1 in (omega arith, omega arith)

  rolls : (metres : ℕ) → metres ≤ 10000000 → rolling_seconds block train metres ≤ 110000000000
  rolls metres short =
      let speed = speed_is.0 in
      let allowance = fits.allowance in
      let length : 1000 * metres ≤ 10000000000 = omega arith in
      let first : 1000 * metres * (100 + train.allowance) ≤ 10000000000 * (100 + train.allowance) = mul-le-mul_right (100 + train.allowance) length in
      let most : 1000 * metres * (100 + train.allowance) ≤ 110000000000 * 100 = omega (arith, first, allowance) in
      let least : 100 ≤ 100 * lesser_speed block train = omega (arith, speed) in
      let all : 110000000000 * 100 ≤ 110000000000 * (100 * lesser_speed block train) = mul-le-mul_left 110000000000 least in
      ceil_within (1000 * metres * (100 + train.allowance)) (100 * lesser_speed block train) 110000000000 (omega (arith, speed)) (omega (arith, most, all))

  slows : (rate d now : ℕ) → 1 ≤ rate → 1 ≤ now → d ≤ now → div_ceil (d * d) (2 * rate * now) ≤ d
  slows rate d now some low less =
      let more : 1 * now ≤ 2 * rate * now = mul-le-mul_right now (omega arith) in
      let same : 1 * now ≡ now = omega arith in
      square_small d (2 * rate * now) (omega (arith, more, same, low)) (omega (arith, more, same, less))

  changes : (before now : ℕ) → 1 ≤ before → before ≤ 200000 → 1 ≤ now → now ≤ 200000 → change_seconds train before now ≤ 200000
  changes before now one high low most = go (nat_le before now)
    where
      go : (faster : Bool) → (if faster then div_ceil ((now - before) * (now - before)) (2 * train.accel * now) else div_ceil ((before - now) * (before - now)) (2 * train.brake * before)) ≤ 200000
      go true = let small = slows train.accel (now - before) now fits.accel.0 low (omega arith) in omega (arith, small, most)
      go false = let small = slows train.brake (before - now) before fits.brake.0 one (omega arith) in omega (arith, small, high)

  enters : (entry : Enter) → IsEnterWithinLimits entry → entry_seconds block train settings entry ≤ 200000
  enters Still within = let small = ceil_small (lesser_speed block train) (2 * train.accel) (let some = fits.accel.0 in omega (arith, some)) in let most = speed_is.1 in omega (arith, small, most)
  enters (From before) within = go settings.speed_loss
    where
      go : (loses : Bool) → (if loses then change_seconds train before (lesser_speed block train) else 0) ≤ 200000
      go true = changes before (lesser_speed block train) within.0 within.1 speed_is.0 speed_is.1
      go false = omega arith

  leaves : (exit : Edge) → exit_seconds block train exit ≤ 200000
  leaves Halted = let small = ceil_small (lesser_speed block train) (2 * train.brake) (let some = fits.brake.0 in omega (arith, some)) in let most = speed_is.1 in omega (arith, small, most)
  leaves Rolling = omega arith

  in_ticks : (seconds : ℕ) → ticks_of settings seconds ≤ seconds + 1
  in_ticks seconds = let small = ceil_small seconds settings.tick_s (let some = timetable.tick_s.0 in omega (arith, some)) in omega (arith, small)

  -- a part of a block
  pub part_small : (entry : Enter) (exit : Edge) (metres : ℕ) → IsEnterWithinLimits entry → metres ≤ block.length_m → part_ticks block train settings entry exit metres ≤ 120000000000
  unfolding part_ticks
  part_small entry exit metres within inside =
      let length = has.length_m.1 in
      let a = rolls metres (omega (arith, inside, length)) in
      let b = enters entry within in
      let c = leaves exit in
      let d = in_ticks (rolling_seconds block train metres + entry_seconds block train settings entry + exit_seconds block train exit) in
      omega (arith, a, b, c, d)

  -- and its sight distance
  pub sight_small : sight_ticks block train settings ≤ 120000000000
  unfolding sight_ticks
  sight_small = go (nat_eq block.sight_m 0)
    where
      go : (none : Bool) → (if none then 0 else ticks_of settings (rolling_seconds block train block.sight_m)) ≤ 120000000000
      go true = omega arith
      go false = let a = rolls block.sight_m (let sight = has.sight_m in omega (arith, sight)) in let d = in_ticks (rolling_seconds block train block.sight_m) in omega (arith, a, d)
