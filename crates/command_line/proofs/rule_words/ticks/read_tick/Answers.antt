use Rattle.std.proofs.Common.{◌≡◌, ◌<◌, ◌^◌, ℤ, pos, negsuc, true, false, arith, rules, w64}
use Rattle.std.specs.Int.Signed.{mag}
use Rattle.std.proofs.lemmas.Fmt.{parse-signed_decimal}
use Rattle.std.proofs.lemmas.Int.{ints, to_z-of_z}
use Rattle.rail_types.specs.Limits.{IsTick}
use Rattle.command_line.proofs.rule_words.ticks.read_tick.Goals.{else-is_tick-via-then-is_tick+else-is_text_of, else-is_tick-via-else-is_tick}
use Rattle.command_line.proofs.rule_words.ticks.read_tick.Goals as goal

tick_is_small : (tick : ℤ) → IsTick tick → mag tick < 2 ^ 63
tick_is_small (pos n) within = omega (arith, ints, within.1)
tick_is_small (negsuc n) within = omega (arith, ints, within.0)

-- a tick's text is parsed
pub returns-in_default-clause-none : goal.returns-in_default-clause-none
returns-in_default-clause-none c tick within text =
    let small = tick_is_small tick within in
    let parsed = parse-signed_decimal w64 tick c.args.text.now c.parse.result (record { sfits = small }) small text c.parse.ensures.value.0 in
    cc

pub returns-else-is_tick-clause-none : goal.returns-else-is_tick-clause-none
returns-else-is_tick-clause-none c tick within text =
    let small = tick_is_small tick within in
    let parsed = parse-signed_decimal w64 tick c.args.text.now c.parse.result (record { sfits = small }) small text c.parse.ensures.value.0 in
    let same : c.in-Ok.tick ≡ tick = cc in
    let kept = to_z-of_z w64 tick (record { sfits = small }) in
    elim c.else-is_tick.branch [
      | else-is_tick-via-then-is_tick+else-is_text_of w ↦
          let told : w.is_text_of.result ≡ true = w.is_text_of.ensures.1 (rw (same, kept) text) in
          let missed : w.is_text_of.result ≡ false = search rules in
          cc
      | else-is_tick-via-else-is_tick w ↦
          let told : c.is_tick.result ≡ true = c.is_tick.ensures.fact.1 (rw (same, kept) within) in
          let missed : c.is_tick.result ≡ false = search rules in
          cc
    ]
